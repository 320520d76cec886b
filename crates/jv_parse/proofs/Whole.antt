-- What was read is what the tokens spell.
use Rattle.std.proofs.Common.{List, Some, None, refl, sym, subst, ◌∙◌}
use Rattle.std.specs.Prelude.{Result, Ok, Err, IfOk}
use Rattle.mg_read.specs.Culprit.{Culprit, culprit}
use Rattle.mg_read.specs.First.{Judged}
use Rattle.mg_read.proofs.Judging.{one_answer, no_both}
use Rattle.mg_read.proofs.Steps.{some_is, none_is_not}
use Rattle.jv_tree.specs.declared.token.Token.{Token}
use Rattle.jv_tree.specs.declared.tree.File.{File as KeptFile}
use Rattle.jv_tree.specs.Source.{File}
use Rattle.jv_tree.specs.Files.{Spells}
use Rattle.jv_tree.specs.View.{file_of}
use Rattle.jv_grammar.proofs.Decls.{file_sound, file_complete}
use Rattle.jv_parse.specs.Unsupported.{IsUnsupported}
use Rattle.jv_parse.specs.Answer.{IsReadOrMemory, SaysUnsupported, IsRefusedOrMemory, SaysSyntax}
use Rattle.jv_parse.specs.inner.Parsed.{Parsed}
use Rattle.jv_parse.specs.declared.fault.ParseFault.{ParseFault}
use Rattle.jv_parse.specs.declared.fault.ParseFault.TheVariants as faults
use Rattle.jv_parse.proofs.Sought.{single}

pub parsed_refused : (r : Result KeptFile ParseFault) (ts : List Token) → Parsed r ts → (c : Culprit) → Judged IsUnsupported ts (Some c) →
    IsRefusedOrMemory r c
parsed_refused (Ok file) ts h c j = absurd (no_both h.0 j)
parsed_refused (Err (faults.Syntax place)) ts h c j = absurd (no_both h.0 j)
parsed_refused (Err (faults.Unsupported place text)) ts h c j =
    some_is c (culprit place text) (one_answer {r = Some c} {s = Some (culprit place text)} single j h)
parsed_refused (Err faults.Memory) ts h c j = tt

pub parsed_unsupported : (r : Result KeptFile ParseFault) (ts : List Token) → Parsed r ts → (c : Culprit) → SaysUnsupported r c →
    Judged IsUnsupported ts (Some c)
parsed_unsupported (Ok file) ts h c says = absurd says
parsed_unsupported (Err (faults.Syntax place)) ts h c says = absurd says
parsed_unsupported (Err (faults.Unsupported place text)) ts h c says = subst (λ (d : Culprit). Judged IsUnsupported ts (Some d)) (sym says)
    h
parsed_unsupported (Err faults.Memory) ts h c says = absurd says

pub parsed_found : (r : Result KeptFile ParseFault) (ts : List Token) → Parsed r ts →
    IfOk r (λ f. Judged IsUnsupported ts None × Spells (file_of f) ts)
parsed_found (Ok file) ts h = (h.0, file_sound ts (file_of file) h.1)
parsed_found (Err fault) ts h = tt

pub parsed_only : (r : Result KeptFile ParseFault) (ts : List Token) → Parsed r ts → (f : File) → Judged IsUnsupported ts None → Spells f ts
    → IsReadOrMemory r f
parsed_only (Ok file) ts h f j s = some_is (file_of file) f (sym h.1 ∙ file_complete f ts s)
parsed_only (Err (faults.Syntax place)) ts h f j s = absurd (none_is_not f (sym h.1 ∙ file_complete f ts s))
parsed_only (Err (faults.Unsupported place text)) ts h f j s = absurd (no_both j h)
parsed_only (Err faults.Memory) ts h f j s = refl

pub parsed_syntax : (r : Result KeptFile ParseFault) (ts : List Token) → Parsed r ts → SaysSyntax r → Judged IsUnsupported ts None
    × ((f : File) → Spells f ts → ⊥)
parsed_syntax (Ok file) ts h says = absurd says
parsed_syntax (Err (faults.Syntax place)) ts h says = (h.0, λ f s. none_is_not f (sym h.1 ∙ file_complete f ts s))
parsed_syntax (Err (faults.Unsupported place text)) ts h says = absurd says
parsed_syntax (Err faults.Memory) ts h says = absurd says
