-- What the machine takes and gives for a member of a built-in class is what its descriptor says.
use Rattle.std.specs.Prelude.{◌≡◌, List, [], ◌∷◌, ◌++◌, length, map, Some, if◌then◌else◌, ◌==◌}
use Rattle.cls_tree.specs.declared.opcodes.TheConstants.{INVOKESTATIC}
use Rattle.vm_model.specs.declared.linked.Built.{Built}
use Rattle.vm_model.specs.BuiltIns.{BuiltMember, built_member}
use Rattle.vm_model.specs.Program.{Program}
use Rattle.vm_model.specs.Types.{FieldType, Int, Truth, Named, Signature, result_types, signature_of, type_of}
use Rattle.vm_model.specs.Machine.{Machine}
use Rattle.vm_model.specs.Tests.{Want, Typed, number, taking, built_needs}

-- what a value of a type is as an operand: a truth value is an int
abbrev pub operand_of : FieldType → Want
operand_of Int = number
operand_of Truth = number
operand_of type = Typed type

-- the object under the arguments, where the method isn't static
abbrev pub object_of : BuiltMember → List Want
object_of m = if m.op == INVOKESTATIC then [] else Typed (Named m.class) ∷ []

-- a method takes its object and its parameters, and gives its result; a field takes nothing, and gives what it holds
pub data DoesAsDescribed (b : Built) : Type 0 where
  method : (s : Signature) → signature_of (built_member b).descriptor ≡ Some s →
      ((p : Program) (m : Machine) → built_needs p m b
      ≡ taking p m (object_of (built_member b) ++ map operand_of s.params) (length (result_types s.result))) → DoesAsDescribed b
  field : (t : FieldType) → type_of (built_member b).descriptor ≡ Some t →
      ((p : Program) (m : Machine) → built_needs p m b ≡ taking p m [] 1) → DoesAsDescribed b

abbrev pub MembersDoAsDescribed : Type 0
MembersDoAsDescribed = (b : Built) → DoesAsDescribed b
