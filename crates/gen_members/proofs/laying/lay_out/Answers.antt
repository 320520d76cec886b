use Rattle.gen_expressions.specs.View.{instrs_of}
use Rattle.gen_members.proofs.Assembling.{begins, lay_more, laid_done}
use Rattle.std.proofs.Common.{subst}
use Rattle.gen_pool.proofs.Fronts.{front_none, front_twice}
use Rattle.std.proofs.lemmas.List.{drop_all}
use Rattle.gen_members.proofs.Assembling.{IsLeft}
use Rattle.gen_members.specs.Laid.{laid}
use Rattle.gen_members.proofs.laying.lay_out.Goals as goal

pub loop-instr-init : goal.loop-instr-init
loop-instr-init c = (
  rw (c.new.ensures.items, c.new-2.ensures.items) (begins (instrs_of c.args.core.now c.args.instrs.now) c.args.pool.now),
  front_none c.args.pool.now,
)

pub loop-instr-preserved : goal.loop-instr-preserved
loop-instr-preserved c = (
  lay_more c.args.core.now c.args.instrs.now c.loop-instr.instr-index c.instr-item.result _ _ _ _ _ _ _
      c.loop-instr-test.true c.instr-item.is c.in_ok-number.ensures.made (c.size_at-size.ensures.size c.args.core.now)
      c.in_ok-push.ensures
      c.loop-instr.invariant.0,
  front_twice c.loop-instr.invariant.1 c.constant.ensures.kept,
)

pub returns-clause-made : goal.returns-clause-made
returns-clause-made c = laid_done _ _ _ _ _
    (subst (λ ys. IsLeft (instrs_of c.args.core.now ys) c.loop-instr.laid.numbers.items c.loop-instr.laid.starts.items
    c.loop-instr.laid.end c.loop-instr.pool (laid 0 (instrs_of c.args.core.now c.args.instrs.now) c.args.pool.now))
    (drop_all c.loop-instr.instr-index c.args.instrs.now c.loop-instr-test.false) c.loop-instr.invariant.0)
