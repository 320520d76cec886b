use Rattle.std.proofs.Common.{drop}
use Rattle.cls_tree.specs.View.{instrs_of}
use Rattle.jv_core.specs.Tree.{Program}
use Rattle.gen_expressions.specs.View.{instrs_of as symbolics_of}
use Rattle.gen_members.specs.Laid.{finals}
use Rattle.gen_members.proofs.Assembling.{AreLeft}
use Rattle.gen_members.proofs.finals.final_code.Given as goal

-- the instructions so far, and those that are left, are all
abbrev pub invariant-loop-index : goal.invariant-loop-index
invariant-loop-index l = (p : Program) →
    AreLeft l.fn.laid.starts.items p (finals l.fn.laid.starts.items l.fn.laid.starts.items (symbolics_of p l.fn.instrs)
    l.fn.laid.numbers.items)
    (drop l.index l.fn.laid.starts.items) (drop l.index l.fn.instrs) (drop l.index l.fn.laid.numbers.items) (instrs_of l.code.items)
