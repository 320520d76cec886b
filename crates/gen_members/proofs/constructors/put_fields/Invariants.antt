use Rattle.std.proofs.Common.{◌≡◌, ◌++◌, map, drop}
use Rattle.jv_core.specs.Tree.{Program}
use Rattle.jv_core.specs.View.{field_of}
use Rattle.gen_rules.specs.Classes.{all_initialised}
use Rattle.gen_expressions.specs.View.{instrs_of}
use Rattle.gen_members.proofs.constructors.put_fields.Given as goal

abbrev pub invariant-loop-number : goal.invariant-loop-number
invariant-loop-number l = (p : Program) →
    instrs_of p l.instrs.items ++ all_initialised p l.fn.class l.number (map field_of (drop l.number l.fn.fields.items))
    ≡ instrs_of p l.fn.instrs.items ++ all_initialised p l.fn.class 0 (map field_of l.fn.fields.items)
