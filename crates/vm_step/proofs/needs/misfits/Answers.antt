use Rattle.std.proofs.Common.{◌≡◌, ◌-◌, ◌∙◌, length, slice_get, Some}
use Rattle.vm_model.specs.Tests as model
use Rattle.vm_frames.specs.Seen.{value_in}
use Rattle.vm_session.specs.State.{state_of, operands_of}
use Rattle.vm_step.proofs.Testing.{found_more, found_all, taken_at}
use Rattle.vm_step.proofs.needs.misfits.Goals as goal

pub loop-at-preserved : goal.loop-at-preserved
loop-at-preserved c =
    let tops = model.on_top (length c.args.takes.now) (operands_of c.args.state.now) in
    let v = value_in c.args.state.now.texts c.operand-cell.result in
    let there : slice_get tops c.loop-at.at ≡ Some v =
    taken_at (operands_of c.args.state.now) (length c.args.takes.now) c.loop-at.at c.loop-at-test.true c.requires
    ∙ c.operand-cell.ensures.value in
    record {
      kind = found_more c.args.linked.now (state_of c.args.state.now).heap model.is_kind c.args.takes.now tops
          c.loop-at.at _ v _ _ _ c.loop-at-test.true there (rw c.misfit.ensures at c.noted-found.ensures.kind) c.loop-at.invariant.kind;
      member = found_more c.args.linked.now
          (state_of c.args.state.now).heap model.is_member c.args.takes.now tops
          c.loop-at.at _ v _ _ _ c.loop-at-test.true there (rw c.misfit.ensures at c.noted-found.ensures.member) c.loop-at.invariant.member;
    }

pub returns : goal.returns
returns c =
    let tops = model.on_top (length c.args.takes.now) (operands_of c.args.state.now) in record {
      kind = found_all c.args.linked.now (state_of c.args.state.now).heap model.is_kind c.args.takes.now tops
          c.loop-at.at _ _ c.loop-at-test.false c.loop-at.invariant.kind;
      member = found_all c.args.linked.now (state_of c.args.state.now).heap model.is_member c.args.takes.now tops
          c.loop-at.at _ _ c.loop-at-test.false c.loop-at.invariant.member;
    }
