use Rattle.std.proofs.Common.{refl}
use Rattle.std.specs.Prelude.{Result, Ok, Err, MatchResult, IsOk}
use Rattle.cls_layout.proofs.Plain.{plain_utf8}
use Rattle.cls_layout.proofs.letters.plain_text.Goals as goal

-- what can't have failed is Ok
ok_where : {T E : Type 0} (r : Result T E) (P : T → Type 0) (Q : E → Type 0) → MatchResult r P Q → ((e : E) → Q e → ⊥) → IsOk r
ok_where (Ok x) P Q h never = refl
ok_where (Err e) P Q h never = absurd (never e h)

pub unwrap-text-requires : goal.unwrap-text-requires
unwrap-text-requires c = ok_where c.from_utf8.result _ _ c.from_utf8.ensures.cases (λ e q. q.0 (plain_utf8 c.args.bytes.now c.requires))
