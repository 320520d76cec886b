use Rattle.std.proofs.Common.{rules, ◌≡◌, ◌<◌, ◌≤◌, [], length, arith}
use Rattle.cls_tree.specs.View.{instr_of, instrs_of}
use Rattle.cls_tree.specs.Layout.{instr_bytes}
use Rattle.vm_load.proofs.Codes.{starts_on, starts_done}
use Rattle.vm_load.proofs.Rising.{starts_rise}
use Rattle.vm_load.proofs.code.starts_of.Goals as goal

pub loop-instr-preserved : goal.loop-instr-preserved
loop-instr-preserved c =
    let within : c.loop-instr.instr-index < length c.args.instrs.now = search rules in
    let w : c.width-place.result ≡ length (instr_bytes c.loop-instr.place (instr_of c.instr-item.result)) = c.width-place.ensures.value in
    record {
      whole = starts_on [] [] [] c.args.instrs.now c.loop-instr.instr-index c.instr-item.result c.loop-instr.place c.width-place.result
          within c.instr-item.is w
          c.loop-instr.starts.items _ _ c.loop-instr.invariant.whole c.in_ok-push.ensures.items;
      bound = omega (arith, c.width-place.ensures.bound);
    }

pub returns-clause-starts : goal.returns-clause-starts
returns-clause-starts c =
    let past : length c.args.instrs.now ≤ c.loop-instr.instr-index = search rules in
    starts_done c.args.instrs.now c.loop-instr.instr-index c.loop-instr.starts.items c.loop-instr.place _ past c.loop-instr.invariant.whole

pub returns-clause-rising : goal.returns-clause-rising
returns-clause-rising c =
    let past : length c.args.instrs.now ≤ c.loop-instr.instr-index = search rules in
    starts_rise (instrs_of c.args.instrs.now) c.loop-instr.starts.items
    (starts_done c.args.instrs.now c.loop-instr.instr-index c.loop-instr.starts.items c.loop-instr.place _ past
    c.loop-instr.invariant.whole)
