-- Which classes can be laid out: their numbers and counts fit, and each instruction has the arguments of its opcode.
use Rattle.std.specs.Prelude.{ℕ, ◌+◌, ◌<◌, ◌^◌, Option, Some, None, List, length}
use Rattle.std.specs.List.{AllByRecursion}
use Rattle.std.specs.Str.{IsUtf8}
use Rattle.std.specs.Int.RustNames.{FitsSigned}
use mir.Syntax.{w8, w16, w32}
use Rattle.cls_tree.specs.declared.class.Const.{Const}
use Rattle.cls_tree.specs.declared.class.Const.TheVariants as consts
use Rattle.cls_tree.specs.declared.instr.Form.{Form}
use Rattle.cls_tree.specs.declared.instr.Form.TheVariants as forms
use Rattle.cls_tree.specs.Opcodes.{form_of}
use Rattle.cls_tree.specs.Modified.{modified}
use Rattle.cls_tree.specs.Layout.{code_bytes, content_bytes, highest}
use Rattle.cls_tree.specs.Tree.{Args, Number, Local, Pool, Jump, Add, Table, Instr, Inner, Unread, Misplaced, Code, Attr, Coded, Other}
use Rattle.cls_tree.specs.Tree.{Member, Class}
use Rattle.cls_tree.specs.Tree as tree

abbrev pub IsU1 : ℕ → Type 0
IsU1 n = n < 2 ^ 8

abbrev pub IsU2 : ℕ → Type 0
IsU2 n = n < 2 ^ 16

abbrev pub IsU4 : ℕ → Type 0
IsU4 n = n < 2 ^ 32

-- a list whose length is told in two bytes, all of whose items are so
abbrev pub Counted : {A : Type 0} → (A → Type 0) → List A → Type 0
Counted P xs = AllByRecursion P xs × IsU2 (length xs)

-- bytes whose length is told in four bytes
abbrev pub IsRun : List ℕ → Type 0
IsRun bytes = AllByRecursion IsU1 bytes × IsU4 (length bytes)

abbrev pub FitsConst : Const → Type 0
FitsConst (consts.Utf8 text) = IsUtf8 text × IsU2 (length (modified text))
FitsConst (consts.Integer n) = FitsSigned w32 n
FitsConst (consts.Class name) = IsU2 name
FitsConst (consts.Text text) = IsU2 text
FitsConst (consts.Field class member) = IsU2 class × IsU2 member
FitsConst (consts.Method class member) = IsU2 class × IsU2 member
FitsConst (consts.NameAndType name descriptor) = IsU2 name × IsU2 descriptor

-- what stands behind an opcode of this form: a table has at least one offset, and its highest number is an int
abbrev pub FitsForm : Form → Args → Type 0
FitsForm forms.Nothing tree.None = Unit {0}
FitsForm forms.Byte (Number n) = FitsSigned w8 n
FitsForm forms.Short (Number n) = FitsSigned w16 n
FitsForm forms.Local (Local n) = IsU1 n
FitsForm forms.Increment (Add local n) = IsU1 local × FitsSigned w8 n
FitsForm forms.Jump (Jump distance) = FitsSigned w16 distance
FitsForm forms.Table (Table default low offsets) =
    FitsSigned w32 default × FitsSigned w32 low × FitsSigned w32 (highest low offsets) × AllByRecursion (FitsSigned w32) offsets
    × (0 < length offsets)
FitsForm forms.NearConstant (Pool n) = IsU1 n
FitsForm forms.Constant (Pool n) = IsU2 n
FitsForm forms.Field (Pool n) = IsU2 n
FitsForm forms.Method (Pool n) = IsU2 n
FitsForm forms.Class (Pool n) = IsU2 n
FitsForm form other = ⊥

abbrev pub FitsArgs : Option Form → Args → Type 0
FitsArgs (Some form) args = FitsForm form args
FitsArgs None args = ⊥

-- the opcode is one, and has its arguments
abbrev pub FitsInstr : Instr → Type 0
FitsInstr i = FitsArgs (form_of i.op) i.args

-- the instructions of a code: at least one
abbrev pub FitsInstrs : List Instr → Type 0
FitsInstrs is = AllByRecursion FitsInstr is × (0 < length is)

abbrev pub FitsInner : Inner → Type 0
FitsInner (Unread name bytes) = IsU2 name × IsRun bytes
FitsInner Misplaced = ⊥

pub record FitsCode (c : Code) : Type 0 where
  pub name : IsU2 c.name
  pub max_stack : IsU2 c.max_stack
  pub max_locals : IsU2 c.max_locals
  pub instrs : FitsInstrs c.instrs
  pub code_length : IsU4 (length (code_bytes c.instrs))
  pub attributes : Counted FitsInner c.attributes
  pub content_length : IsU4 (length (content_bytes c))

abbrev pub FitsAttr : Attr → Type 0
FitsAttr (Coded c) = FitsCode c
FitsAttr (Other name bytes) = IsU2 name × IsRun bytes

pub record FitsMember (m : Member) : Type 0 where
  pub access : IsU2 m.access
  pub name : IsU2 m.name
  pub descriptor : IsU2 m.descriptor
  pub attributes : Counted FitsAttr m.attributes

pub record Fits (c : Class) : Type 0 where
  pub pool : AllByRecursion FitsConst c.pool
  pub count : IsU2 (length c.pool + 1)
  pub access : IsU2 c.access
  pub this_class : IsU2 c.this_class
  pub super_class : IsU2 c.super_class
  pub fields : Counted FitsMember c.fields
  pub methods : Counted FitsMember c.methods
  pub attributes : Counted FitsAttr c.attributes
