-- What the program's values say.
use Rattle.jv_rules.specs.Types.{ValueType, NoValue, IntType, BooleanType, TextType, EnumType, ClassType, NullType}
use Rattle.jv_types.specs.declared.value_type.ValueType.{ValueType as KeptType}
use Rattle.jv_types.specs.declared.value_type.ValueType.TheVariants as kept

abbrev pub type_seen : KeptType → ValueType
type_seen kept.NoValue = NoValue
type_seen kept.Int = IntType
type_seen kept.Boolean = BooleanType
type_seen kept.Text = TextType
type_seen (kept.Enum n) = EnumType n.now
type_seen (kept.Class n) = ClassType n.now
type_seen kept.Null = NullType
