-- Class files, as definitions speak of them (JVMS chapter 4). Numbers of constants count from 1.
use Rattle.std.specs.Prelude.{ℕ, ℤ, List}
use Rattle.cls_tree.specs.declared.class.Const.{Const}

-- what stands behind an opcode: the distances of jumps are counted in bytes from the instruction's own opcode
pub data Args : Type 0 where
  None : Args
  Number : ℤ → Args
  Local : ℕ → Args
  Pool : ℕ → Args
  Jump : ℤ → Args
  -- a local, and what is added to it
  Add : ℕ → ℤ → Args
  -- the distance for other numbers, the lowest number, and the distances from that on
  Table : ℤ → ℤ → List ℤ → Args

pub record Instr : Type 0 where
  pub op : ℕ
  pub args : Args

-- an attribute of a code: its name and its bytes, which are kept unread; a code is misplaced there
pub data Inner : Type 0 where
  Unread : ℕ → List ℕ → Inner
  Misplaced : Inner

pub record Code : Type 0 where
  pub name : ℕ
  pub max_stack : ℕ
  pub max_locals : ℕ
  pub instrs : List Instr
  pub attributes : List Inner

-- an attribute of a member or of a class: code, or a name and bytes
pub data Attr : Type 0 where
  Coded : Code → Attr
  Other : ℕ → List ℕ → Attr

-- a field or a method
pub record Member : Type 0 where
  pub access : ℕ
  pub name : ℕ
  pub descriptor : ℕ
  pub attributes : List Attr

pub record Class : Type 0 where
  pub pool : List Const
  pub access : ℕ
  pub this_class : ℕ
  pub super_class : ℕ
  pub fields : List Member
  pub methods : List Member
  pub attributes : List Attr
