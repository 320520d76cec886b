-- What was read is what the tokens spell.
use Rattle.std.proofs.Common.{◌≡◌, List, refl, sym, ◌∙◌}
use Rattle.std.specs.Prelude.{Result, Ok, Err, IfOk}
use Rattle.mg_read.specs.declared.fault.ParseFault.{ParseFault}
use Rattle.mg_read.specs.declared.fault.ParseFault.TheVariants as faults
use Rattle.mg_read.specs.Parsing.{Gives}
use Rattle.mg_read.proofs.Steps.{some_is, none_is_not}
use Rattle.ts_parse.specs.declared.written.WrittenTypestate.{WrittenTypestate}
use Rattle.ts_parse.specs.Tok.{Tok}
use Rattle.ts_parse.specs.Written.{WFile, wfile_of}
use Rattle.ts_parse.specs.Grammar.{IsSpelled}
use Rattle.ts_parse.specs.Answer.{IsReadOrMemory, SaysSyntax}
use Rattle.ts_parse.specs.inner.Reading.{file_of}
use Rattle.ts_parse.proofs.Files.{file_sound, file_complete}

pub read_found : (r : Result WrittenTypestate ParseFault) (ts : List Tok) → Gives wfile_of r (file_of ts) →
    IfOk r (λ w. IsSpelled (wfile_of w) ts)
read_found (Ok w) ts h = file_sound ts (wfile_of w) h
read_found (Err e) ts h = tt

pub read_only : (r : Result WrittenTypestate ParseFault) (ts : List Tok) → Gives wfile_of r (file_of ts) → (w : WFile) → IsSpelled w ts →
    IsReadOrMemory r w
read_only (Ok v) ts h w s = some_is (wfile_of v) w (sym h ∙ file_complete w ts s)
read_only (Err faults.Memory) ts h w s = refl
read_only (Err (faults.Syntax place)) ts h w s = absurd (none_is_not w (sym h ∙ file_complete w ts s))

pub read_none : (r : Result WrittenTypestate ParseFault) (ts : List Tok) → Gives wfile_of r (file_of ts) → SaysSyntax r → (w : WFile) →
    IsSpelled w ts → ⊥
read_none (Ok v) ts h says w s = says
read_none (Err faults.Memory) ts h says w s = says
read_none (Err (faults.Syntax place)) ts h says w s = none_is_not w (sym h ∙ file_complete w ts s)

pub one_file : (v w : WFile) (ts : List Tok) → IsSpelled v ts → IsSpelled w ts → v ≡ w
one_file v w ts a b = some_is v w (sym (file_complete v ts a) ∙ file_complete w ts b)
