use Rattle.std.proofs.Common.{take, sym, subst, ◌∙◌}
use Rattle.std.proofs.lemmas.List.{take_more, take_all}
use Rattle.mg_trace.specs.inner.Tabled.{AreMethods}
use Rattle.mg_trace.proofs.results.results_of.Goals as goal

pub loop-number-preserved : goal.loop-number-preserved
loop-number-preserved c =
    let numbers = c.as_slice-number-items.result.now in
    let index = c.loop-number.number-index in
    subst (λ ns. AreMethods c.args.core.now ns c.add_method.new.own) (sym (take_more numbers index 0 c.loop-number-test.true))
    (c.in_ok-add_method.ensures (take index numbers) c.loop-number.invariant)

pub returns : goal.returns
returns c =
    let numbers = c.as_slice-number-items.result.now in
    subst (λ ns. AreMethods c.args.core.now ns c.loop-number.own)
    (take_all c.loop-number.number-index numbers c.loop-number-test.false ∙ c.as_slice-number-items.ensures.items) c.loop-number.invariant
