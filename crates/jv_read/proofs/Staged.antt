-- What each step of reading answers.
use Rattle.std.proofs.Common.{◌≡◌, ℕ, ◌≤◌, List, length, Option, Some, None, Result, Ok, Err, refl, sym, ap, ◌∙◌, subst, inl, inr, ◌⊎◌}
use Rattle.mg_read.specs.Culprit.{Culprit, culprit}
use Rattle.mg_read.specs.First.{Judged}
use Rattle.mg_read.proofs.Steps.{some_is, none_is_not}
use Rattle.jv_tree.specs.declared.token.Token.{Token}
use Rattle.jv_tree.specs.declared.tree.File.{File as KeptFile}
use Rattle.jv_tree.specs.Source.{File}
use Rattle.jv_tree.specs.Files as files
use Rattle.jv_tree.specs.View.{file_of}
use Rattle.jv_lex.specs.declared.LexFault.{LexFault}
use Rattle.jv_lex.specs.declared.LexFault.TheVariants as lexes
use Rattle.jv_lex.specs.Outcome as lexing
use Rattle.jv_lex.specs.Outcome.{Lexing, Answers}
use Rattle.jv_lex.specs.Pieces.{AreTokens}
use Rattle.jv_parse.specs.Unsupported.{IsUnsupported}
use Rattle.jv_parse.specs.Answer.{SaysUnsupported, SaysSyntax}
use Rattle.jv_parse.specs.declared.ParseFault.{ParseFault}
use Rattle.jv_parse.specs.declared.ParseFault.TheVariants as parses
use Rattle.jv_read.specs.declared.fault.JavaFault.{JavaFault}
use Rattle.jv_read.specs.Spelling.{Spells}
use Rattle.jv_read.specs.Outcome.{Answer, Read, Syntax, Unsupported, Outcome, uncut, unsupported, syntax, answer_of, fault_answer}
use Rattle.jv_read.specs.Outcome.{IsAnswered}
use Rattle.jv_read.specs.inner.Stages.{fault_of_tokens, fault_of_grammar, IsRefusal, Stage, IsRead}
use Rattle.jv_read.proofs.Unique.{one_outcome}

told_as : (file : ℕ) (bytes : List ℕ) (b : Answer) → Outcome file bytes b → (a : Answer) → ◌≡◌ {A = Option Answer} (Some b) (Some a) →
    Outcome file bytes a
told_as file bytes b h a e = subst (Outcome file bytes) (some_is b a e) h

-- ---- tokens

pub uncut_told : (file : ℕ) (bytes : List ℕ) (fault : LexFault) → Answers (Err fault) (lexing.Outcome file bytes) →
    IsRefusal file bytes (fault_of_tokens fault)
uncut_told file bytes (lexes.TooLarge place) h = λ a e. uncut (lexes.TooLarge place) a h e
uncut_told file bytes (lexes.BadByte place) h = λ a e. uncut (lexes.BadByte place) a h e
uncut_told file bytes (lexes.OpenComment place) h = λ a e. uncut (lexes.OpenComment place) a h e
uncut_told file bytes (lexes.OpenText place) h = λ a e. uncut (lexes.OpenText place) a h e
uncut_told file bytes (lexes.BadEscape place) h = λ a e. uncut (lexes.BadEscape place) a h e
uncut_told file bytes (lexes.BadNumber place) h = λ a e. uncut (lexes.BadNumber place) a h e
uncut_told file bytes lexes.Memory h = λ a e. absurd (none_is_not a e)

-- bytes that aren't too many, and their tokens
pub record Cut (file : ℕ) (bytes : List ℕ) (ts : List Token) : Type 0 where
  pub size : length bytes ≤ 1048576
  pub tokens : AreTokens file ts bytes

cut_in : (file : ℕ) (bytes : List ℕ) (r : Lexing) → lexing.Outcome file bytes r → (ts : List Token) → r ≡ Ok ts → Cut file bytes ts
cut_in file bytes r (lexing.too_large h) ts e = absurd (let d : ◌≡◌ {A = Lexing} _ _ = e in cc)
cut_in file bytes r (lexing.refused cause k le first) ts e = absurd (let d : ◌≡◌ {A = Lexing} _ _ = e in cc)
cut_in file bytes r (lexing.lexed us le cut) ts e =
    let same : us ≡ ts = cc in
    record { size = le; tokens = subst (λ (z : List Token). AreTokens file z bytes) same cut }

pub cut_of : (file : ℕ) (bytes : List ℕ) (ts us : List Token) → us ≡ ts → lexing.Outcome file bytes (Ok ts) → Cut file bytes us
cut_of file bytes ts us e h = subst (Cut file bytes) (sym e) (cut_in file bytes (Ok ts) h ts refl)

-- ---- the grammar

pub ungrammatical_told : (file : ℕ) (bytes : List ℕ) (ts : List Token) → Cut file bytes ts → (fault : ParseFault)
    → ((c : Culprit) → SaysUnsupported (Err fault) c → Judged IsUnsupported ts (Some c))
    → (SaysSyntax (Err fault) → Judged IsUnsupported ts None × ((f : File) → files.Spells f ts → ⊥))
    → IsRefusal file bytes (fault_of_grammar fault)
ungrammatical_told file bytes ts cut (parses.Unsupported place text) says refuses =
    told_as file bytes (Unsupported place text) (unsupported ts place text cut.size cut.tokens (says (culprit place text) refl))
ungrammatical_told file bytes ts cut (parses.Syntax place) says refuses = let h = refuses tt in told_as file bytes Syntax
    (syntax ts cut.size cut.tokens h.0 h.1)
ungrammatical_told file bytes ts cut parses.Memory says refuses = λ a e. absurd (none_is_not a e)

pub spells_of : (file : ℕ) (bytes : List ℕ) (ts : List Token) (f : File) → Cut file bytes ts → Judged IsUnsupported ts None × files.Spells f
    ts → Spells file bytes f
spells_of file bytes ts f cut (supported, spelled) = record {
  size = cut.size;
  tokens = ts;
  cut = cut.tokens;
  supported =
      supported;
  spelled = spelled;
}

-- ---- the whole

pub answered_of : (file : ℕ) (bytes : List ℕ) (r : Result KeptFile JavaFault) → Stage file bytes (IsRead file bytes) r → (a : Answer)
    → answer_of r ≡ Some a → Outcome file bytes a
answered_of file bytes (Ok f) h a e = told_as file bytes (Read (file_of f)) h a e
answered_of file bytes (Err fault) h a e = h a e

pub only_of : (file : ℕ) (bytes : List ℕ) (r : Result KeptFile JavaFault) → Stage file bytes (IsRead file bytes) r → (a : Answer)
    → Outcome file bytes a → IsAnswered a r
only_of file bytes (Ok f) h a g = inl (ap Some (one_outcome file bytes (Read (file_of f)) a h g))
only_of file bytes (Err fault) h a g = go (fault_answer fault) refl
  where
    go : (o : Option Answer) → fault_answer fault ≡ o → (fault_answer fault ≡ Some a) ⊎ (fault_answer fault ≡ None)
    go None e = inr e
    go (Some b) e = inl (e ∙ ap Some (one_outcome file bytes b a (h b e) g))
