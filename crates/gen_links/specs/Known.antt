-- What linking finds where the classes are those of a program: each class that has objects, and each member under its name and
-- descriptor.
use Rattle.std.specs.Prelude.{◌≡◌, ◌⊎◌, ℕ, List, Some, slice_get}
use Rattle.mg_text.specs.Call.{Name}
use Rattle.vm_model.specs.Links.{Outline, loaded, field_types, method_types}
use Rattle.jv_core.specs.declared.program.MethodKind.{MethodKind}
use Rattle.jv_core.specs.declared.program.MethodKind.TheVariants as kinds
use Rattle.jv_core.specs.Tree.{Field, Class, Method, Program}
use Rattle.jv_core.specs.Types.{HasTypestate}
use Rattle.jv_core.specs.Conditions.{IsMethod}
use Rattle.cls_tree.specs.declared.opcodes.TheConstants.{GETFIELD, PUTFIELD, INVOKEVIRTUAL, INVOKESPECIAL, INVOKESTATIC}
use Rattle.cls_tree.specs.Pool.{Reference}
use Rattle.gen_rules.specs.Members.{class_name, field_reference, method_reference, init_of}
use Rattle.gen_rules.specs.Classes.{constructor_code}
use Rattle.gen_rules.specs.inner.Generating.{generated}
use Rattle.gen_links.specs.Right.{Names, AreRight}

-- a class of this name is loaded
pub record IsLoaded (os : List Outline) (name : Name) : Type 0 where
  pub number : ℕ
  pub is : loaded os name ≡ Some number

abbrev pub NamesField : List Outline → (count op : ℕ) → Reference → Type 0
NamesField os count op r = Names os count op r (field_types r.member.descriptor)

abbrev pub NamesMethod : List Outline → (count op : ℕ) → Reference → Type 0
NamesMethod os count op r = Names os count op r (method_types r.member.name r.member.descriptor)

-- the opcode by which a method of this kind is called; `main` isn't
abbrev pub IsCalledBy : MethodKind → (op : ℕ) → Type 0
IsCalledBy kinds.Protocol op = op ≡ INVOKEVIRTUAL
IsCalledBy kinds.Helper op = op ≡ INVOKESPECIAL
IsCalledBy kinds.Static op = op ≡ INVOKESTATIC
IsCalledBy kinds.Main op = ⊥

-- in code of so many instructions
pub record Knows (os : List Outline) (p : Program) (count : ℕ) : Type 0 where
  pub class : (c : ℕ) → HasTypestate p c → IsLoaded os (class_name p c)
  pub init : (c : ℕ) → HasTypestate p c → NamesMethod os count INVOKESPECIAL (init_of (class_name p c))
  pub field : (op c f : ℕ) (k : Class) (d : Field) → (op ≡ GETFIELD) ⊎ (op ≡ PUTFIELD) → slice_get p.classes c ≡ Some k →
      slice_get k.fields f ≡ Some d → NamesField os count op (field_reference p c f)
  pub method : (op n : ℕ) (k : Method) → slice_get p.methods n ≡ Some k → IsCalledBy k.kind op →
      NamesMethod os count op (method_reference p n)

-- Where this is found, all instructions of a method of a core link: their jumps lead to instructions, and what they name is there.
-- So do those of the constructor of a class with a typestate.
pub record CodeIsRight : Type 0 where
  pub constructor_right : (os : List Outline) (p : Program) (c : ℕ) (k : Class) → ((count : ℕ) → Knows os p count) →
      slice_get p.classes c ≡ Some k →
      AreRight os (constructor_code p c k)
  pub right : (os : List Outline) (p : Program) (m : Method) → ((count : ℕ) → Knows os p count) → IsMethod p m →
      AreRight os (generated p m)
