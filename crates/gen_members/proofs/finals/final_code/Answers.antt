use Rattle.std.proofs.Common.{refl}
use Rattle.cls_tree.specs.View.{instrs_of}
use Rattle.gen_expressions.specs.View.{instrs_of as symbolics_of}
use Rattle.gen_members.specs.Laid.{finals}
use Rattle.gen_members.proofs.Assembling.{all_made}
use Rattle.gen_members.proofs.finals.final_code.Goals as goal

pub loop-index-init : goal.loop-index-init
loop-index-init c = λ p. rw c.new-code.ensures refl

pub returns : goal.returns
returns c = λ p. all_made c.args.laid.now.starts.items p
    (finals c.args.laid.now.starts.items c.args.laid.now.starts.items (symbolics_of p c.args.instrs.now) c.args.laid.now.numbers.items)
    c.args.laid.now.starts.items c.args.instrs.now c.args.laid.now.numbers.items c.loop-index.index (instrs_of c.loop-index.code.items)
    c.loop-index-test.false (c.loop-index.invariant p)
