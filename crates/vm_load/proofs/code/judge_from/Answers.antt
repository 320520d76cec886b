use Rattle.std.proofs.lemmas.Grind.{common_steps}
use Rattle.std.proofs.Common.{rules, ◌≡◌, ◌<◌, length, arith}
use Rattle.cls_tree.specs.View.{instr_of}
use Rattle.cls_tree.specs.Layout.{instr_bytes}
use Rattle.vm_load.specs.Outlines.{outlines_of}
use Rattle.vm_load.proofs.Codes.{right_on, wrong_on}
use Rattle.vm_load.proofs.code.judge_from.Goals as goal

pub loop-instr-preserved : goal.loop-instr-preserved
loop-instr-preserved c =
    let within : c.loop-instr.instr-index < length c.args.instrs.now = search rules in
    let w : c.width-place.result ≡ length (instr_bytes c.loop-instr.place (instr_of c.instr-item.result)) = c.width-place.ensures.value in
    record {
      right = right_on (outlines_of c.args.outlines.now) c.args.pool.now c.args.starts.now c.args.instrs.now c.loop-instr.instr-index
          c.instr-item.result c.loop-instr.place
          c.width-place.result within c.instr-item.is w _ _ _ c.loop-instr.invariant.right
          (c.in_ok-add.ensures.right _ c.judge_instr-judged.ensures.judges);
      wrong = wrong_on (outlines_of c.args.outlines.now) c.args.pool.now c.args.starts.now c.args.instrs.now c.loop-instr.instr-index
          c.instr-item.result c.loop-instr.place
          c.width-place.result within c.instr-item.is w _ _ _ c.loop-instr.invariant.wrong
          (c.in_ok-add.ensures.wrong _ c.judge_instr-judged.ensures.judges);
      bound = omega (arith, c.width-place.ensures.bound);
      known = c.judge_instr-judged.ensures.known;
    }

pub returns-clause-right : goal.returns-clause-right
returns-clause-right c = grind (arith, common_steps)

pub returns-clause-wrong : goal.returns-clause-wrong
returns-clause-wrong c = grind (arith, common_steps)
