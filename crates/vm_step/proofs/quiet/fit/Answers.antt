use Rattle.std.proofs.Common.{◌≡◌, length, drop, map, Some, slice_get, sym, ap, ◌∙◌}
use Rattle.std.proofs.lemmas.List.{drop_all}
use Rattle.vm_model.specs.Kept.{type_kept}
use Rattle.vm_model.specs.Tests.{Typed, misfits, on_top, some_of}
use Rattle.vm_frames.specs.Seen.{value_in}
use Rattle.vm_session.specs.State.{state_of}
use Rattle.vm_session.specs.State.{operands_of}
use Rattle.vm_step.proofs.Quietly.{one_less}
use Rattle.vm_step.proofs.Testing.{taken_at}
use Rattle.vm_step.proofs.quiet.fit.Goals as goal

pub loop-at-preserved : goal.loop-at-preserved
loop-at-preserved c =
    let tops = on_top (length c.args.params.now) (operands_of c.args.state.now) in
    let v = value_in c.args.state.now.texts c.operand-cell.result in
    let there : slice_get tops c.loop-at.at ≡ Some v =
    taken_at (operands_of c.args.state.now) (length c.args.params.now) c.loop-at.at c.loop-at-test.true c.requires
    ∙ c.operand-cell.ensures.value in
    λ test none.
    one_less type_kept c.args.linked.now (state_of c.args.state.now).heap test c.args.params.now tops
    c.loop-at.at
    c.index-params-at.result v c.loop-at-test.true (sym c.index-params-at.is) there
    (rw c.field_type.ensures at (sym c.misfit_type.ensures ∙ c.in_default.is)) none
    ∙ c.loop-at.invariant test none

pub returns : goal.returns
returns c = λ test none.
    sym (c.loop-at.invariant test none)
    ∙ ap (λ l. some_of test (misfits c.args.linked.now (state_of c.args.state.now).heap
    (map Typed (map type_kept l)) (drop c.loop-at.at (on_top (length c.args.params.now) (operands_of c.args.state.now)))))
    (drop_all c.loop-at.at c.args.params.now c.loop-at-test.false)
