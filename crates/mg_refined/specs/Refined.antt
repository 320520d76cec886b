-- What is told of the typestates of two files: whether the first stands for the second.
use Rattle.std.specs.Prelude.{ℕ, Bool, true, false, List, [], ◌∷◌, ◌++◌, length, codes, Option, Some, None}
use Rattle.std.specs.Fmt.{decimal}
use Rattle.mg_text.specs.Call.{Name, Call}
use Rattle.mg_read.specs.First.{Judged}
use Rattle.ts_tree.specs.Typestate.{Typestate}
use Rattle.ts_refine.specs.declared.verdict.Pair.{Pair}
use Rattle.ts_refine.specs.declared.verdict.Reason.{Reason}
use Rattle.ts_refine.specs.declared.verdict.Reason.TheVariants as reasons
use Rattle.ts_refine.specs.Verdicts.{Stands, FailsFirst}
use Rattle.mg_refusal.specs.Refusals.{Refusal}
use Rattle.mg_sources.specs.Files.{Source}
use Rattle.mg_sources.specs.Reading.{States, EachSpells, Refuses}

-- yes, and how many pairs of places calls lead to
abbrev pub yes_text : ℕ → List ℕ
yes_text count = codes "yes, " ++ decimal count ++ codes " pairs" ++ 10 ∷ []

-- behind a method stand a blank and the answer, if there is one
abbrev pub answer_words : Option Name → List ℕ
answer_words None = []
answer_words (Some label) = codes " " ++ label

abbrev pub call_line : Call → List ℕ
call_line call = call.method ++ answer_words call.answer ++ 10 ∷ []

abbrev pub calls_text : List Call → List ℕ
calls_text [] = []
calls_text (call ∷ calls) = call_line call ++ calls_text calls

-- such a word, and the method that is at fault
abbrev pub flaw_line : List ℕ → Name → List ℕ
flaw_line word method = word ++ method ++ 10 ∷ []

abbrev pub reason_line : Reason → List ℕ
reason_line (reasons.NoMethod method) = flaw_line (codes "NoMethod ") method
reason_line (reasons.SignatureDiffers method) = flaw_line (codes "SignatureDiffers ") method
reason_line (reasons.LabelsDiffer method) = flaw_line (codes "LabelsDiffer ") method
reason_line reasons.NotFinished = codes "NotFinished" ++ 10 ∷ []

-- no, the calls to where it fails, and the reason
abbrev pub no_text : List Call → Reason → List ℕ
no_text calls reason = codes "no" ++ 10 ∷ [] ++ calls_text calls ++ reason_line reason

-- this is told of two typestates, and whether the first stands for the second
pub data Tells (a b : Typestate) : List ℕ → Bool → Type 0 where
  yes_told : {pairs : List Pair} → Stands a b pairs → Tells a b (yes_text (length pairs)) true
  no_told : {calls : List Call} {reason : Reason} → FailsFirst a b calls reason → Tells a b (no_text calls reason) false

-- These files are two typestates, of which this is told.
pub record AreJudged (files : List Source) (text : List ℕ) (stands : Bool) : Type 0 where
  pub a : Typestate
  pub b : Typestate
  pub spell : EachSpells files (States a ∷ States b ∷ [])
  pub tells : Tells a b text stands

-- The first of these files that its reader refuses is refused so.
abbrev pub FirstRefusal : List Source → Refusal → Type 0
FirstRefusal files r = Judged Refuses files (Some r)
