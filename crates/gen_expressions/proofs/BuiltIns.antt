-- What holds of each field and of each method holds of each member of a built-in class.
use Rattle.std.proofs.Common.{Bool, true, false, if◌then◌else◌}
use Rattle.std.specs.Prelude.{◌==◌}
use Rattle.cls_tree.specs.declared.opcodes.TheConstants.{GETSTATIC}
use Rattle.cls_tree.specs.Pool.{Reference}
use Rattle.vm_model.specs.declared.linked.Built.{Built}
use Rattle.vm_model.specs.BuiltIns.{built_member, reference_of}
use Rattle.gen_rules.specs.Symbolic.{Operand, Field, Method}
use Rattle.gen_expressions.specs.View.{built_in_of}

pub of_members : (P : Operand → Type 0) → ((r : Reference) → P (Field r)) → ((r : Reference) → P (Method r)) → (b : Built) →
    P (built_in_of b)
of_members P field method b = go ((built_member b).op == GETSTATIC)
  where
    go : (is_read : Bool) → P (if is_read then Field (reference_of b) else Method (reference_of b))
    go true = field (reference_of b)
    go false = method (reference_of b)
