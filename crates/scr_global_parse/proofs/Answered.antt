-- What reading says of the grammar.
use Rattle.std.proofs.Common.{◌≡◌, ℕ, List, Result, Ok, Err, refl, sym, ap, ◌∙◌}
use Rattle.std.specs.Prelude.{IfOk}
use Rattle.mg_read.proofs.Steps.{some_is, none_is_not}
use Rattle.scr_tree.specs.Tok.{Tok}
use Rattle.scr_global_tree.specs.declared.written.WrittenGlobal.{WrittenGlobal}
use Rattle.scr_global_tree.specs.Written.{WrittenTree, written_of}
use Rattle.scr_parse.specs.declared.fault.ParseFault.{ParseFault}
use Rattle.scr_parse.specs.declared.fault.ParseFault.TheVariants as faults
use Rattle.scr_global_parse.specs.Grammar.{IsSpelled}
use Rattle.scr_parse.specs.Answer.{Gives}
use Rattle.scr_global_parse.specs.Answer.{IsReadOrMemory, SaysSyntax}
use Rattle.scr_global_parse.specs.inner.Reading.{file_at}
use Rattle.scr_global_parse.proofs.Whole.{numbered, renumber, file_sound, file_complete}

pub is_found : (r : Result WrittenGlobal ParseFault) (ts : List Tok) → Gives (written_of 0) r (file_at ts)
    → IfOk r (λ w. (file : ℕ) → IsSpelled (written_of file w) ts)
is_found (Ok w) ts h = λ file. renumber file (written_of 0 w) ts (file_sound ts (written_of 0 w) h)
is_found (Err e) ts h = tt

pub is_only : (r : Result WrittenGlobal ParseFault) (ts : List Tok) → Gives (written_of 0) r (file_at ts) → (w : WrittenTree) →
    IsSpelled w ts
    → IsReadOrMemory r w
is_only (Ok x) ts h w s = ap (numbered w.file) (some_is (written_of 0 x) (numbered 0 w) (sym h ∙ file_complete w ts s))
is_only (Err faults.Memory) ts h w s = refl
is_only (Err (faults.Syntax place)) ts h w s = absurd (none_is_not (numbered 0 w) (sym h ∙ file_complete w ts s))

pub is_none : (r : Result WrittenGlobal ParseFault) (ts : List Tok) → Gives (written_of 0) r (file_at ts) → SaysSyntax r → (w : WrittenTree)
    → IsSpelled w ts → ⊥
is_none (Ok x) ts h says w s = says
is_none (Err faults.Memory) ts h says w s = says
is_none (Err (faults.Syntax place)) ts h says w s = none_is_not (numbered 0 w) (sym h ∙ file_complete w ts s)

pub same_tree : (w v : WrittenTree) (ts : List Tok) → IsSpelled w ts → IsSpelled v ts → w.file ≡ v.file → w ≡ v
same_tree w v ts s r e =
    let q = some_is (numbered 0 w) (numbered 0 v) (sym (file_complete w ts s) ∙ file_complete v ts r) in
    λ i. numbered (e i) (q i)
