-- Whether the numbers of a class name constants of the kinds that their places need, as a test. With what is known of each class
-- that was read, it is that the class is well formed.
use Rattle.std.specs.Prelude.{ℕ, List, Option, Some, None, Bool, true, false, ◌==◌, ◌&&◌, ◌||◌}
use Rattle.std.specs.List.{list_all}
use Rattle.cls_tree.specs.declared.class.Const.{Const}
use Rattle.cls_tree.specs.declared.class.Const.TheVariants as consts
use Rattle.cls_tree.specs.declared.instr.Form.{Form}
use Rattle.cls_tree.specs.declared.instr.Form.TheVariants as forms
use Rattle.cls_tree.specs.Opcodes.{form_of}
use Rattle.cls_tree.specs.Pool.{tag_at}
use Rattle.cls_tree.specs.Tree.{Args, Pool, Instr, Inner, Unread, Misplaced, Attr, Coded, Other, Member, Class}

abbrev pub is_tag : ℕ → Option ℕ → Bool
is_tag tag None = false
is_tag tag (Some found) = found == tag

-- whether there is a constant of this number, and it is of this kind
unfoldable pub has_tag : List Const → ℕ → ℕ → Bool
has_tag pool n tag = is_tag tag (tag_at pool n)

abbrev pub const_names : List Const → Const → Bool
const_names pool (consts.Class name) = has_tag pool name 1
const_names pool (consts.Text text) = has_tag pool text 1
const_names pool (consts.Field class member) = has_tag pool class 7 && has_tag pool member 12
const_names pool (consts.Method class member) = has_tag pool class 7 && has_tag pool member 12
const_names pool (consts.NameAndType name descriptor) = has_tag pool name 1 && has_tag pool descriptor 1
const_names pool other = true

-- what the number behind an opcode of this form names
abbrev pub form_names : List Const → Option Form → ℕ → Bool
form_names pool (Some forms.NearConstant) n = has_tag pool n 3 || has_tag pool n 8
form_names pool (Some forms.Constant) n = has_tag pool n 3 || has_tag pool n 8
form_names pool (Some forms.Field) n = has_tag pool n 9
form_names pool (Some forms.Method) n = has_tag pool n 10
form_names pool (Some forms.Class) n = has_tag pool n 7
form_names pool form n = true

abbrev pub args_name : List Const → ℕ → Args → Bool
args_name pool op (Pool n) = form_names pool (form_of op) n
args_name pool op other = true

abbrev pub instr_names : List Const → Instr → Bool
instr_names pool i = args_name pool i.op i.args

abbrev pub inner_names : List Const → Inner → Bool
inner_names pool (Unread name bytes) = has_tag pool name 1
inner_names pool Misplaced = false

abbrev pub attr_names : List Const → Attr → Bool
attr_names pool (Coded c) = list_all (instr_names pool) c.instrs && list_all (inner_names pool) c.attributes
attr_names pool (Other name bytes) = has_tag pool name 1

abbrev pub member_names : List Const → Member → Bool
member_names pool m = has_tag pool m.name 1 && (has_tag pool m.descriptor 1 && list_all (attr_names pool) m.attributes)

-- the constants of a class, itself and the class above it
unfoldable pub heads_name : Class → Bool
heads_name c = list_all (const_names c.pool) c.pool && (has_tag c.pool c.this_class 7 && has_tag c.pool c.super_class 7)

-- its methods and attributes
unfoldable pub methods_name : Class → Bool
methods_name c = list_all (member_names c.pool) c.methods && list_all (attr_names c.pool) c.attributes

-- its fields, methods and attributes
unfoldable pub bodies_name : Class → Bool
bodies_name c = list_all (member_names c.pool) c.fields && methods_name c

-- each number of a class does
abbrev pub class_names : Class → Bool
class_names c = heads_name c && bodies_name c
