-- What the program's types say, and how far its reading of a descriptor is.
use Rattle.std.specs.Prelude.{◌≡◌, ℕ, ◌≤◌, List, [], ◌++◌, map, Option, Some, None, option_map, option_to_list, slice_range}
use Rattle.std.specs.Str.{IsCharBoundary}
use Rattle.vm_model.specs.declared.types.FieldType.{FieldType as Kept}
use Rattle.vm_model.specs.declared.types.FieldType.TheVariants as kept
use Rattle.vm_model.specs.declared.types.Signature.{Signature as KeptSignature}
use Rattle.vm_model.specs.declared.types.Stage.{Stage}
use Rattle.vm_model.specs.declared.types.Stage.TheVariants as stages
use Rattle.vm_model.specs.declared.types.Next.{Next}
use Rattle.vm_model.specs.Types.{FieldType, Int, Truth, Named, Texts, Signature, Reading, Begins, Params, ParamName, Result, ResultName}
use Rattle.vm_model.specs.Types.{Whole, Wrong}

abbrev pub type_view : Kept → FieldType
type_view kept.Int = Int
type_view kept.Truth = Truth
type_view (kept.Named name) = Named name.now
type_view kept.Texts = Texts

abbrev pub types_view : List Kept → List FieldType
types_view ts = map type_view ts

abbrev pub signature_view : KeptSignature → Signature
signature_view s = record { params = types_view s.params.items; result = option_map type_view s.result }

-- what has been read of a descriptor up to a place
abbrev pub reading_of : List ℕ → ℕ → List FieldType → Stage → Reading
reading_of d at params stages.Begins = Begins
reading_of d at params stages.Params = Params params
reading_of d at params (stages.ParamName start) = ParamName params (slice_range d start at)
reading_of d at params stages.Answer = Result params
reading_of d at params (stages.AnswerName start) = ResultName params (slice_range d start at)
reading_of d at params (stages.Whole result) = Whole (record { params = params; result = option_map type_view result })

-- the same behind one more byte
abbrev pub after_of : List ℕ → ℕ → List FieldType → Option Next → Reading
after_of d at params None = Wrong
after_of d at params (Some n) = reading_of d at (params ++ option_to_list (option_map type_view n.param)) n.stage

-- nothing was read before the beginning, and a name begins where the text may be cut
abbrev pub IsStage : List ℕ → ℕ → List FieldType → Stage → Type 0
IsStage d at params stages.Begins = params ≡ []
IsStage d at params (stages.ParamName start) = (start ≤ at) × IsCharBoundary d start
IsStage d at params (stages.AnswerName start) = (start ≤ at) × IsCharBoundary d start
IsStage d at params _ = Unit {0}

abbrev pub IsNext : List ℕ → ℕ → Next → Type 0
IsNext d at n = (params : List FieldType) → IsStage d at params n.stage
