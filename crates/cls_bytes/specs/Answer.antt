-- What reading and writing a class may answer. Want of memory is free.
use Rattle.std.specs.Prelude.{◌≡◌, ℕ, List, [], ◌∷◌, Result, Ok, Err, Option, Some, None}
use Rattle.cls_tree.specs.Tree.{Attr, Coded, Other, Member, Class as Tree}
use Rattle.cls_tree.specs.View.{class_of}
use Rattle.cls_tree.specs.Layout.{class_bytes}
use Rattle.cls_tree.specs.declared.class.Class.{Class}
use Rattle.cls_code.specs.declared.CodeFault.{CodeFault}
use Rattle.cls_code.specs.Code.{Encoding, Code, Refused, encoding}
use Rattle.cls_layout.specs.declared.ClassFault.{ClassFault}
use Rattle.cls_layout.specs.declared.ClassFault.TheVariants as faults
use Rattle.cls_bytes.specs.declared.WriteFault.{WriteFault}
use Rattle.cls_bytes.specs.declared.WriteFault.TheVariants as refused

-- this class was read, unless memory ran out
abbrev pub IsClassOrMemory : Result Class ClassFault → Tree → Type 0
IsClassOrMemory (Ok c) class = class_of c ≡ class
IsClassOrMemory (Err fault) class = fault ≡ faults.Memory

-- a first refusal, or else the next
abbrev pub or_else : Encoding → Option CodeFault → Option CodeFault
or_else (Refused fault) later = Some fault
or_else (Code bytes) later = later

abbrev pub attr_refusal : Attr → Option CodeFault → Option CodeFault
attr_refusal (Coded c) later = or_else (encoding c.instrs) later
attr_refusal (Other name bytes) later = later

-- what the first code of these attributes that can't be encoded is refused by
abbrev pub attrs_refusal : List Attr → Option CodeFault → Option CodeFault
attrs_refusal [] later = later
attrs_refusal (a ∷ attrs) later = attr_refusal a (attrs_refusal attrs later)

abbrev pub members_refusal : List Member → Option CodeFault → Option CodeFault
members_refusal [] later = later
members_refusal (m ∷ ms) later = attrs_refusal m.attributes (members_refusal ms later)

-- what the first code of a class that can't be encoded is refused by, in the order of the bytes
abbrev pub class_refusal : Tree → Option CodeFault
class_refusal c = members_refusal c.fields (members_refusal c.methods (attrs_refusal c.attributes None))

-- what a class is written as
pub data Writing : Type 0 where
  Bytes : List ℕ → Writing
  Refusal : CodeFault → Writing

abbrev pub written : List ℕ → Option CodeFault → Writing
written bytes None = Bytes bytes
written bytes (Some fault) = Refusal fault

-- the bytes, unless a code can't be encoded
abbrev pub writing : Tree → Writing
writing c = written (class_bytes c) (class_refusal c)

-- this was answered, or memory ran out
abbrev pub IsWritten : Writing → Result (List ℕ) WriteFault → Type 0
IsWritten (Bytes bytes) (Ok b) = b ≡ bytes
IsWritten (Refusal fault) (Ok b) = ⊥
IsWritten writing (Err refused.Memory) = Unit {0}
IsWritten (Bytes bytes) (Err (refused.Code f)) = ⊥
IsWritten (Refusal fault) (Err (refused.Code f)) = f ≡ fault

-- these bytes were answered, or memory ran out
abbrev pub IsFileOrMemory : List ℕ → Result (List ℕ) WriteFault → Type 0
IsFileOrMemory bytes (Ok b) = b ≡ bytes
IsFileOrMemory bytes (Err refused.Memory) = Unit {0}
IsFileOrMemory bytes (Err (refused.Code fault)) = ⊥
