-- What each step of reading answers.
use Rattle.std.proofs.Common.{◌≡◌, ℕ, ◌≤◌, List, length, Option, Some, None, Result, Ok, Err, refl, sym, ap, ◌∙◌, subst, inl, inr, ◌⊎◌}
use Rattle.std.proofs.Common.{arith}
use Rattle.std.specs.Result.{IsErrOf}
use Rattle.mg_text.specs.declared.place.Place.{Place}
use Rattle.mg_read.specs.declared.fault.LexFault.{LexFault}
use Rattle.mg_read.specs.declared.fault.LexFault.TheVariants as lexes
use Rattle.mg_read.specs.First.{Judged}
use Rattle.mg_read.specs.Pieces.{no_piece, ill_formed}
use Rattle.mg_read.proofs.Steps.{some_is}
use Rattle.scr_tree.specs.declared.local.Local.{Local}
use Rattle.scr_tree.specs.Local.{tree_of}
use Rattle.scr_tree.specs.Tok.{Tok}
use Rattle.scr_tree.specs.Written.{WrittenTree}
use Rattle.scr_lex.specs.Pieces.{IsBadAt}
use Rattle.scr_parse.specs.declared.fault.ParseFault.{ParseFault}
use Rattle.scr_parse.specs.declared.fault.ParseFault.TheVariants as parses
use Rattle.scr_parse.specs.Grammar.{IsSpelled}
use Rattle.scr_parse.specs.Answer.{SaysSyntax}
use Rattle.scr_read.specs.declared.fault.ScrFault.{ScrFault}
use Rattle.scr_read.specs.Unsupported.{IsUnsupported}
use Rattle.scr_read.specs.declared.words.ProtocolKind.TheVariants as kinds
use Rattle.scr_read.specs.Spelling.{Separates, Spells}
use Rattle.scr_read.specs.Outcome.{Answer, Protocol, Outcome, fault_answer, answer_of, IsAnswered}
use Rattle.scr_read.specs.inner.Stages.{Stage, IsProtocol}
use Rattle.scr_read.proofs.Unique.{one_outcome}

-- what holds of an answer holds of the one that was given
pub told : {A : Type 0} (P : A → Type 0) (b : A) → P b → (a : A) → ◌≡◌ {A = Option A} (Some b) (Some a) → P a
told P b h a e = subst P (some_is b a e) h

pub told_by : {A : Type 0} (P : A → Type 0) (o : Option A) (b : A) → o ≡ Some b → P b → (a : A) → o ≡ Some a → P a
told_by P o b is h a e = told P b h a (sym is ∙ e)

-- where it holds of one at most, that one was given, or none
pub told_alone : {A : Type 0} (P : A → Type 0) → ((b a : A) → P b → P a → b ≡ a) → (o : Option A) → ((a : A) → o ≡ Some a → P a) → (a : A)
    → P a → (o ≡ Some a) ⊎ (o ≡ None)
told_alone P one None h a g = inr refl
told_alone P one (Some b) h a g = inl (ap Some (one b a (h b refl) g))

-- a bad byte lies in the file
pub bad_within : (k : ℕ) (bytes : List ℕ) → IsBadAt k bytes → k ≤ length bytes
bad_within k bytes b =
    elim (b.bad) [
      | no_piece u ↦ omega (arith, u.here)
      | ill_formed v ↦ omega (arith, v.short)
    ]

abbrev lexed : {T : Type 0} → LexFault → Result T LexFault
lexed fault = Err fault

pub bad_of : {T : Type 0} (fault : LexFault) (k : ℕ) (bytes : List ℕ) → fault ≡ lexes.BadByte k
    → ((j : ℕ) → IsErrOf {T = T} (Err fault) (lexes.BadByte j) → IsBadAt j bytes) → IsBadAt k bytes
bad_of {T} fault k bytes is h = h k (ap (lexed {T = T}) is)

pub says_syntax : (fault : ParseFault) (place : Option Place) → fault ≡ parses.Syntax place → SaysSyntax (Err fault)
says_syntax fault place is = subst (λ (f : ParseFault). SaysSyntax (Err f)) (sym is) tt

pub spells_of : (file : ℕ) (bytes : List ℕ) (tokens : List Tok) (w : WrittenTree) → w.file ≡ file → Separates file bytes tokens
    → Judged (IsUnsupported kinds.Local) tokens None → IsSpelled w tokens → Spells file bytes w
spells_of file bytes tokens w same separates supported spelled =
    record { same_file = same; tokens = tokens; separates = separates; supported = supported; spelled = spelled }

pub answered_of : (file : ℕ) (bytes : List ℕ) (r : Result Local ScrFault) → Stage file bytes (IsProtocol file bytes) r → (a : Answer)
    → answer_of r ≡ Some a → Outcome file bytes a
answered_of file bytes (Ok local) h a e = told (Outcome file bytes) (Protocol (tree_of local)) h a e
answered_of file bytes (Err fault) h a e = h a e

pub only_of : (file : ℕ) (bytes : List ℕ) (r : Result Local ScrFault) → Stage file bytes (IsProtocol file bytes) r → (a : Answer)
    → Outcome file bytes a → IsAnswered a r
only_of file bytes (Ok local) h a g = inl (ap Some (one_outcome file bytes (Protocol (tree_of local)) a h g))
only_of file bytes (Err fault) h a g = told_alone (Outcome file bytes) (one_outcome file bytes) (fault_answer fault) h a g
