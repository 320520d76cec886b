-- Types as linked programs keep them, which read each descriptor once.
use Rattle.std.specs.Prelude.{List, [], map, Option, Some, None, option_map}
use Rattle.vm_model.specs.declared.linked_type.LinkedType.{LinkedType}
use Rattle.vm_model.specs.declared.linked_type.LinkedType.TheVariants as kept
use Rattle.vm_model.specs.Types.{FieldType, Int, Truth, Named, Texts, Signature, result_in}

abbrev pub kept_type : FieldType → LinkedType
kept_type Int = kept.Int
kept_type Truth = kept.Truth
kept_type (Named name) = kept.Named name
kept_type Texts = kept.Texts

abbrev pub type_kept : LinkedType → FieldType
type_kept kept.Int = Int
type_kept kept.Truth = Truth
type_kept (kept.Named name) = Named name
type_kept kept.Texts = Texts

abbrev pub kept_params : Option Signature → List LinkedType
kept_params None = []
kept_params (Some s) = map kept_type s.params

abbrev pub kept_result : Option Signature → Option LinkedType
kept_result s = option_map kept_type (result_in s)
