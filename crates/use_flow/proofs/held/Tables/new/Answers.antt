use Rattle.std.proofs.Common.{sym, ap, ◌∙◌, subst}
use Rattle.use_rules.specs.Keys.{contexts_in}
use Rattle.use_flow.specs.inner.Holding.{AreApart}
use Rattle.use_flow.specs.inner.Listing.{entries_in}
use Rattle.use_flow.proofs.Answered.{IfOk-two, IfOk-three}
use Rattle.use_flow.proofs.Holding.{tables_made, tables_start}
use Rattle.use_flow.proofs.held.Tables.new.Goals as goal

pub returns-clause-made : goal.returns-clause-made
returns-clause-made c =
    IfOk-three c.filled.result _ _ _ _ (λ t reached contexts held.
    tables_made c.args.core.now c.in_ok-reached.reached.items c.in_ok-contexts.contexts.contexts.items c.as_slice-4.result.now t
    (c.in_ok-contexts.ensures ∙ ap (contexts_in c.args.core.now) c.as_slice.ensures.value)
    (c.as_slice-4.ensures.items ∙ c.in_ok-entries.ensures ∙ ap (entries_in c.args.core.now) c.as_slice-2.ensures.items)
    reached held c.in_ok-numbers.numbers.keys
    c.in_ok-reached.ensures.proper c.in_ok-reached.ensures.reached
    (λ a. c.in_ok-numbers.ensures (subst AreApart (sym c.as_slice-3.ensures.items) a) ∙ c.as_slice-3.ensures.items)
    contexts) c.filled.ensures.reached c.filled.ensures.contexts c.filled.ensures.held

pub returns-clause-start : goal.returns-clause-start
returns-clause-start c =
    IfOk-two c.filled.result _ _ _ (λ t reached held.
    tables_start c.args.core.now c.in_ok-reached.reached.items c.in_ok-contexts.contexts.contexts.items c.as_slice-4.result.now t
    (c.in_ok-contexts.ensures ∙ ap (contexts_in c.args.core.now) c.as_slice.ensures.value)
    (c.as_slice-4.ensures.items ∙ c.in_ok-entries.ensures ∙ ap (entries_in c.args.core.now) c.as_slice-2.ensures.items)
    reached held) c.filled.ensures.reached c.filled.ensures.held
