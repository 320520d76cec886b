-- What each step of reading answers.
use Rattle.std.proofs.Common.{◌≡◌, ℕ, List, Option, Some, None, Result, Ok, Err, sym, ap, subst, inl}
use Rattle.mg_text.specs.declared.place.Place.{Place}
use Rattle.mg_read.specs.First.{Judged}
use Rattle.scr_global_tree.specs.declared.global.Global.{Global}
use Rattle.scr_global_tree.specs.Global.{tree_of}
use Rattle.scr_tree.specs.Tok.{Tok}
use Rattle.scr_global_tree.specs.Written.{WrittenTree}
use Rattle.scr_parse.specs.declared.fault.ParseFault.{ParseFault}
use Rattle.scr_parse.specs.declared.fault.ParseFault.TheVariants as parses
use Rattle.scr_global_parse.specs.Grammar.{IsSpelled}
use Rattle.scr_global_parse.specs.Answer.{SaysSyntax}
use Rattle.scr_global_read.specs.declared.fault.GlobalFault.{GlobalFault}
use Rattle.scr_read.specs.Unsupported.{IsUnsupported}
use Rattle.scr_read.specs.declared.words.ProtocolKind.TheVariants as kinds
use Rattle.scr_read.specs.Spelling.{Separates}
use Rattle.scr_global_read.specs.Spelling.{Spells}
use Rattle.scr_global_read.specs.Outcome.{Answer, Protocol, Outcome, fault_answer, answer_of, IsAnswered}
use Rattle.scr_global_read.specs.inner.Stages.{Stage, IsProtocol}
use Rattle.scr_read.proofs.Staged.{told, told_alone}
use Rattle.scr_global_read.proofs.Unique.{one_outcome}

pub says_syntax : (fault : ParseFault) (place : Option Place) → fault ≡ parses.Syntax place → SaysSyntax (Err fault)
says_syntax fault place is = subst (λ (f : ParseFault). SaysSyntax (Err f)) (sym is) tt

pub spells_of : (file : ℕ) (bytes : List ℕ) (tokens : List Tok) (w : WrittenTree) → w.file ≡ file → Separates file bytes tokens
    → Judged (IsUnsupported kinds.Global) tokens None → IsSpelled w tokens → Spells file bytes w
spells_of file bytes tokens w same separates supported spelled =
    record { same_file = same; tokens = tokens; separates = separates; supported = supported; spelled = spelled }

pub answered_of : (file : ℕ) (bytes : List ℕ) (r : Result Global GlobalFault) → Stage file bytes (IsProtocol file bytes) r → (a : Answer)
    → answer_of r ≡ Some a → Outcome file bytes a
answered_of file bytes (Ok global) h a e = told (Outcome file bytes) (Protocol (tree_of global)) h a e
answered_of file bytes (Err fault) h a e = h a e

pub only_of : (file : ℕ) (bytes : List ℕ) (r : Result Global GlobalFault) → Stage file bytes (IsProtocol file bytes) r → (a : Answer)
    → Outcome file bytes a → IsAnswered a r
only_of file bytes (Ok global) h a g = inl (ap Some (one_outcome file bytes (Protocol (tree_of global)) a h g))
only_of file bytes (Err fault) h a g = told_alone (Outcome file bytes) (one_outcome file bytes) (fault_answer fault) h a g
