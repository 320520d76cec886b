use Rattle.std.proofs.Common.{◌≡◌, ◌++◌, drop, map}
use Rattle.use_flow.specs.inner.Entering.{entered_in}
use Rattle.use_flow.proofs.entered.add_states.Given as goal

abbrev pub invariant-loop-offer : goal.invariant-loop-offer
invariant-loop-offer l =
    l.entered.contexts.items ++ entered_in l.class l.method_number l.set (map (λ o. o.state) (drop l.offer-index l.offers))
    ≡ l.initial.entered.contexts.items ++ entered_in l.class l.method_number l.set (map (λ o. o.state) l.offers)
