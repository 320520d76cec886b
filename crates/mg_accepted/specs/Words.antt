-- The word for each type condition.
use Rattle.std.specs.Prelude.{ℕ, List, codes}
use Rattle.jv_rules.specs.declared.condition.Condition.{Condition}
use Rattle.jv_rules.specs.declared.condition.Condition.TheVariants as conditions

abbrev pub type_word : Condition → List ℕ
type_word conditions.DuplicateName = codes "DuplicateName"
type_word conditions.DuplicateMember = codes "DuplicateMember"
type_word conditions.UnknownClass = codes "UnknownClass"
type_word conditions.UnknownTypestate = codes "UnknownTypestate"
type_word conditions.MissingMethod = codes "MissingMethod"
type_word conditions.SignatureDiffers = codes "SignatureDiffers"
type_word conditions.LabelsDiffer = codes "LabelsDiffer"
type_word conditions.FieldNeedsValue = codes "FieldNeedsValue"
type_word conditions.InstanceInPlain = codes "InstanceInPlain"
type_word conditions.UnknownName = codes "UnknownName"
type_word conditions.DuplicateLocal = codes "DuplicateLocal"
type_word conditions.TypeMismatch = codes "TypeMismatch"
type_word conditions.Arity = codes "Arity"
type_word conditions.BadLabel = codes "BadLabel"
type_word conditions.MissingReturn = codes "MissingReturn"
type_word conditions.SelfCall = codes "SelfCall"
type_word conditions.ThisAsValue = codes "ThisAsValue"
type_word conditions.ArgsMayMove = codes "ArgsMayMove"
