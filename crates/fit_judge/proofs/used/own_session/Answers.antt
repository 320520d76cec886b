use Rattle.std.proofs.Common.{codes, ap, ◌∙◌}
use Rattle.mg_refusal.specs.Refusals.{refusal_at}
use Rattle.jv_tree.specs.BuiltIn.{PlainMethod}
use Rattle.fit_uses.specs.declared.usage.Use.{Use}
use Rattle.fit_uses.specs.declared.usage.Use.TheVariants as uses
use Rattle.fit_judge.specs.inner.Used.{Talks}
use Rattle.fit_judge.proofs.Walks.{walk_start, walk_end, walk_here, walk_later, reads}
use Rattle.fit_judge.proofs.used.own_session.Goals as goal

pub loop-used-init : goal.loop-used-init
loop-used-init c = walk_start Talks c.args.uses.now

pub returns-in-Talks : goal.returns-in-Talks
returns-in-Talks c =
    let used : Use = uses.Talks c.in-Talks.place c.in-Talks.call in
    walk_here Talks c.args.uses.now c.loop-used.used-index c.loop-used.invariant used c.loop-used-test.true
    (reads c.args.uses.now c.loop-used.used-index _ used c.loop-used-test.true c.in-Talks.is) c.named.result
    (c.named.ensures ∙ ap (refusal_at (codes "OwnSession") c.in-Talks.place) (c.in_ok-name-in-Talks.ensures
    ∙ ap (λ (m : PlainMethod). m.name) c.method.ensures))

pub loop-used-preserved : goal.loop-used-preserved
loop-used-preserved c =
    let used : Use = uses.Makes c.in-Makes.field-0 c.in-Makes.field-1 in
    walk_later Talks c.args.uses.now c.loop-used.used-index c.loop-used.invariant used c.loop-used-test.true
    (reads c.args.uses.now c.loop-used.used-index _ used c.loop-used-test.true c.in-Makes.is) (λ r a. a)

pub returns : goal.returns
returns c = walk_end Talks c.args.uses.now c.loop-used.used-index c.loop-used.invariant c.loop-used-test.false
