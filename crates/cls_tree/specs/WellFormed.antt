-- Which classes are well formed: each number of a constant names one of the kind that its place needs,
-- and an attribute is code exactly where it is a method's and so named, at most one of each method.
use Rattle.std.specs.Prelude.{◌≡◌, ◌≤◌, ◌⊎◌, ℕ, List, Option, Some, None, Bool, true, false, count_by, codes}
use Rattle.std.specs.List.{AllByRecursion}
use Rattle.cls_tree.specs.declared.class.Const.{Const}
use Rattle.cls_tree.specs.declared.class.Const.TheVariants as consts
use Rattle.cls_tree.specs.declared.instr.Form.{Form}
use Rattle.cls_tree.specs.declared.instr.Form.TheVariants as forms
use Rattle.cls_tree.specs.Opcodes.{form_of}
use Rattle.cls_tree.specs.Pool.{tag_at, text_at}
use Rattle.cls_tree.specs.Tree.{Args, Pool, Instr, Inner, Unread, Misplaced, Code, Attr, Coded, Other, Member, Class}

-- there is a constant of this number, and it is a text, an int, a class and so on
abbrev pub IsText : List Const → ℕ → Type 0
IsText pool n = tag_at pool n ≡ Some 1

abbrev pub IsPushed : List Const → ℕ → Type 0
IsPushed pool n = (tag_at pool n ≡ Some 3) ⊎ (tag_at pool n ≡ Some 8)

abbrev pub IsClass : List Const → ℕ → Type 0
IsClass pool n = tag_at pool n ≡ Some 7

abbrev pub IsField : List Const → ℕ → Type 0
IsField pool n = tag_at pool n ≡ Some 9

abbrev pub IsMethod : List Const → ℕ → Type 0
IsMethod pool n = tag_at pool n ≡ Some 10

abbrev pub IsNameAndType : List Const → ℕ → Type 0
IsNameAndType pool n = tag_at pool n ≡ Some 12

abbrev pub ConstNames : List Const → Const → Type 0
ConstNames pool (consts.Class name) = IsText pool name
ConstNames pool (consts.Text text) = IsText pool text
ConstNames pool (consts.Field class member) = IsClass pool class × IsNameAndType pool member
ConstNames pool (consts.Method class member) = IsClass pool class × IsNameAndType pool member
ConstNames pool (consts.NameAndType name descriptor) = IsText pool name × IsText pool descriptor
ConstNames pool other = Unit {0}

-- what the number behind an opcode of this form names
abbrev pub FormNames : List Const → Form → ℕ → Type 0
FormNames pool forms.NearConstant n = IsPushed pool n
FormNames pool forms.Constant n = IsPushed pool n
FormNames pool forms.Field n = IsField pool n
FormNames pool forms.Method n = IsMethod pool n
FormNames pool forms.Class n = IsClass pool n
FormNames pool form n = Unit {0}

abbrev pub OpNames : List Const → Option Form → ℕ → Type 0
OpNames pool (Some form) n = FormNames pool form n
OpNames pool None n = Unit {0}

abbrev pub ArgsName : List Const → ℕ → Args → Type 0
ArgsName pool op (Pool n) = OpNames pool (form_of op) n
ArgsName pool op other = Unit {0}

abbrev pub InstrNames : List Const → Instr → Type 0
InstrNames pool i = ArgsName pool i.op i.args

abbrev pub InnerNames : List Const → Inner → Type 0
InnerNames pool (Unread name bytes) = IsText pool name
InnerNames pool Misplaced = ⊥

-- the number is that of the name of code
abbrev pub NamesCode : List Const → ℕ → Type 0
NamesCode pool n = text_at pool n ≡ Some (codes "Code")

pub record CodeNames (pool : List Const) (c : Code) : Type 0 where
  pub name : NamesCode pool c.name
  pub instrs : AllByRecursion (InstrNames pool) c.instrs
  pub attributes : AllByRecursion (InnerNames pool) c.attributes

-- an attribute of a field or of the class
abbrev pub PlainNames : List Const → Attr → Type 0
PlainNames pool (Coded c) = ⊥
PlainNames pool (Other name bytes) = IsText pool name

-- an attribute of a method
abbrev pub MethodNames : List Const → Attr → Type 0
MethodNames pool (Coded c) = CodeNames pool c
MethodNames pool (Other name bytes) = IsText pool name × (NamesCode pool name → ⊥)

abbrev pub is_code : Attr → Bool
is_code (Coded c) = true
is_code (Other name bytes) = false

pub record IsField_in (pool : List Const) (m : Member) : Type 0 where
  pub name : IsText pool m.name
  pub descriptor : IsText pool m.descriptor
  pub attributes : AllByRecursion (PlainNames pool) m.attributes

pub record IsMethod_in (pool : List Const) (m : Member) : Type 0 where
  pub name : IsText pool m.name
  pub descriptor : IsText pool m.descriptor
  pub attributes : AllByRecursion (MethodNames pool) m.attributes
  pub one_code : count_by is_code m.attributes ≤ 1

pub record IsWellFormed (c : Class) : Type 0 where
  pub pool : AllByRecursion (ConstNames c.pool) c.pool
  pub this_class : IsClass c.pool c.this_class
  pub super_class : IsClass c.pool c.super_class
  pub fields : AllByRecursion (IsField_in c.pool) c.fields
  pub methods : AllByRecursion (IsMethod_in c.pool) c.methods
  pub attributes : AllByRecursion (PlainNames c.pool) c.attributes
