-- The constant of a member of a built-in class is that of its row of the table.
use Rattle.std.proofs.Common.{ℕ, Bool, List, if◌then◌else◌}
use Rattle.cls_tree.specs.declared.class.Const.{Const}
use Rattle.cls_tree.specs.Pool.{Reference}
use Rattle.vm_model.specs.declared.linked.Built.{Built}
use Rattle.vm_model.specs.BuiltIns.{BuiltMember}
use Rattle.gen_rules.specs.Symbolic.{Field, Method}
use Rattle.gen_members.specs.Constants.{constant_of}

abbrev named : BuiltMember → Reference
named m = record { class = m.class; member = record { name = m.name; descriptor = m.descriptor } }

-- what is made for a row: a field where it is read
abbrev pub made : BuiltMember → Bool → List Const → ℕ × List Const
made m is_read pool = constant_of (if is_read then Field (named m) else Method (named m)) pool
