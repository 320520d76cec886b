-- Reading the bytes of a file gives one answer at most.
use Rattle.std.proofs.Common.{◌≡◌, ℕ, List, take, refl}
use Rattle.mg_text.specs.Places.{start_of, place_after}
use Rattle.scr_tree.specs.declared.condition.Condition.{Condition}
use Rattle.scr_global_tree.specs.Written.{WrittenTree, global_of}
use Rattle.scr_global_tree.specs.Faults.{IsFault}
use Rattle.scr_global_parse.specs.Grammar.{IsSpelled}
use Rattle.scr_global_parse.proofs.Answered.{same_tree}
use Rattle.scr_global_judge.proofs.OneFault.{one_fault}
use Rattle.scr_read.proofs.Once as once
use Rattle.scr_read.proofs.Once.{Got, Large, Bad, Word, NoTree, Fault, Tree, Spelled, Comes}
use Rattle.scr_read.specs.Unsupported.{IsUnsupported, unsupported_word}
use Rattle.scr_read.specs.declared.words.ProtocolKind.TheVariants as kinds
use Rattle.scr_global_read.specs.Spelling.{Spells}
use Rattle.scr_global_read.specs.Outcome.{Answer, Protocol, TooLarge, BadByte, Unsupported, Syntax, Refused, Outcome, too_large}
use Rattle.scr_global_read.specs.Outcome.{bad_byte}
use Rattle.scr_global_read.specs.Outcome.{unsupported, syntax, refused, found}
use Rattle.scr_read.proofs.Sought.{single}

-- what is answered
abbrev answer_at : (file : ℕ) (bytes : List ℕ) → Got WrittenTree Condition → Answer
answer_at file bytes Large = TooLarge (start_of file)
answer_at file bytes (Bad k) = BadByte (place_after (start_of file) (take k bytes))
answer_at file bytes (Word place word) = Unsupported place word
answer_at file bytes NoTree = Syntax
answer_at file bytes (Fault condition place name) = Refused condition place name
answer_at file bytes (Tree w) = Protocol (global_of w)

module _ (file : ℕ) (bytes : List ℕ) where
  spelled_of : (w : WrittenTree) → Spells file bytes w →
      Spelled (λ w. w.file) (IsUnsupported kinds.Global) IsSpelled IsFault file bytes w
  spelled_of w s =
      record { same_file = s.same_file; tokens = s.tokens; separates = s.separates; supported = s.supported; spelled = s.spelled }

  comes_to : (a : Answer) → Outcome file bytes a →
      (g : Got WrittenTree Condition) × Comes (λ w. w.file) (IsUnsupported kinds.Global) IsSpelled IsFault file bytes g
      × (answer_at file bytes g ≡ a)
  comes_to a (too_large h) = (Large, once.too_large h, refl)
  comes_to a (bad_byte k le h) = (Bad k, once.bad_byte k le h, refl)
  comes_to a (unsupported {place = p} {word = w} s h) = (Word p w, once.unsupported s h, refl)
  comes_to a (syntax s h n) = (NoTree, once.syntax s h n, refl)
  comes_to a (refused {w = w} {condition = k} {place = p} {name = n} s h) = (Fault k p n, once.refused (spelled_of w s) h, refl)
  comes_to a (found {w = w} s h) = (Tree w, once.found (spelled_of w s) h, refl)

  pub one_file : (w v : WrittenTree) → Spells file bytes w → Spells file bytes v → w ≡ v
  one_file w v a b =
      once.one_file (λ w. w.file) (IsUnsupported kinds.Global) IsSpelled IsFault file bytes (single (unsupported_word kinds.Global)) same_tree
      one_fault w v (spelled_of w a) (spelled_of v b)

  pub one_outcome : (a b : Answer) → Outcome file bytes a → Outcome file bytes b → a ≡ b
  one_outcome = once.one_by (λ w. w.file) (IsUnsupported kinds.Global) IsSpelled IsFault file bytes (single (unsupported_word kinds.Global)) same_tree
      one_fault (answer_at file bytes) (Outcome file bytes) comes_to
