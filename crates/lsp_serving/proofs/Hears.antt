-- What is heard, put together.
use Rattle.std.proofs.Common.{◌≡◌, ℕ, ◌<◌, List, ◌++◌, length, take, Bool, true, false, Option, ap, ◌∙◌, subst, arith}
use Rattle.std.specs.Prelude.{Ok, nat_lt}
use Rattle.std.specs.Io.KnownBytes.{Consumes, IsAtEnd}
use Rattle.std.proofs.lemmas.List.{append-nil}
use Rattle.std.proofs.lemmas.Bool.Decides.{nat_tests}
use Rattle.lsp_json.specs.Reading.{heard}
use Rattle.lsp_serving.specs.inner.Passing.{Fed}

-- one read of so many bytes
pub fed_count : (left right : Option (List ℕ)) (old new buffer : List ℕ) (count : ℕ) → Consumes left right (take count buffer) →
    (count ≡ 0 → 0 < length buffer → IsAtEnd right) → 0 < length buffer → new ≡ old ++ take count buffer →
    (b : Bool) → b ≡ nat_lt 0 count → Fed left right old new (Ok b)
fed_count left right old new buffer count c end room e true is = (take count buffer, c, e)
fed_count left right old new buffer count c end room e false is =
    let none : count ≡ 0 = grind (arith, nat_tests) in (
      e ∙ (ap (λ (k : ℕ). old ++ take k buffer) none ∙ append-nil old),
      subst (λ (k : ℕ). Consumes left right (take k buffer)) none c,
      end none room,
    )
