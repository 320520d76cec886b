use Rattle.std.proofs.Common.{◌≡◌, Some, None, codes, sym, ap, ◌∙◌, true≢false}
use Rattle.std.specs.HashSet.{contains_text}
use Rattle.mg_refusal.specs.Refusals.{refusal_at}
use Rattle.fit_uses.specs.declared.usage.Use.{Use}
use Rattle.fit_uses.specs.declared.usage.Use.TheVariants as uses
use Rattle.fit_judge.specs.inner.Used.{MakesHeld}
use Rattle.fit_judge.proofs.Walks.{walk_start, walk_end, walk_here, walk_later, reads}
use Rattle.fit_judge.proofs.used.made_elsewhere.Goals as goal

pub loop-used-init : goal.loop-used-init
loop-used-init c = λ roles holds. walk_start (MakesHeld c.args.core.now roles) c.args.uses.now

pub loop-used-preserved-in-Talks : goal.loop-used-preserved-in-Talks
loop-used-preserved-in-Talks c = λ roles holds.
    let used : Use = uses.Talks c.in-Talks.field-0 c.in-Talks.field-1 in
    walk_later (MakesHeld c.args.core.now roles) c.args.uses.now c.loop-used.used-index (c.loop-used.invariant roles holds) used
    c.loop-used-test.true (reads c.args.uses.now c.loop-used.used-index _ used c.loop-used-test.true c.in-Talks.is) (λ r a. a)

pub loop-used-preserved-in-None : goal.loop-used-preserved-in-None
loop-used-preserved-in-None c = λ roles holds.
    let used : Use = uses.Makes c.in-Makes.place c.in-Makes.class in
    walk_later (MakesHeld c.args.core.now roles) c.args.uses.now c.loop-used.used-index (c.loop-used.invariant roles holds) used
    c.loop-used-test.true (reads c.args.uses.now c.loop-used.used-index _ used c.loop-used-test.true c.in-Makes.is)
    (λ r a. let never : None ≡ Some a.0 = c.in-None.ensures ∙ a.1 in cc)

pub loop-used-preserved : goal.loop-used-preserved
loop-used-preserved c = λ roles holds.
    let used : Use = uses.Makes c.in-Makes.place c.in-Makes.class in
    walk_later (MakesHeld c.args.core.now roles) c.args.uses.now c.loop-used.used-index (c.loop-used.invariant roles holds) used
    c.loop-used-test.true (reads c.args.uses.now c.loop-used.used-index _ used c.loop-used-test.true c.in-Makes.is)
    (λ r a.
    let both : Some a.0 ≡ Some c.in-Some.name.now = sym a.1 ∙ sym c.in-Some.ensures in
    let same : a.0 ≡ c.in-Some.name.now = cc in
    true≢false (sym ((holds a.0).1 a.2) ∙ ap (contains_text c.args.classes.now) same ∙ sym c.if-contains.ensures))

pub returns-then-contains : goal.returns-then-contains
returns-then-contains c = λ roles holds.
    let used : Use = uses.Makes c.in-Makes.place c.in-Makes.class in
    walk_here (MakesHeld c.args.core.now roles) c.args.uses.now c.loop-used.used-index (c.loop-used.invariant roles holds) used
    c.loop-used-test.true (reads c.args.uses.now c.loop-used.used-index _ used c.loop-used-test.true c.in-Makes.is) c.named.result (
      c.in-Some.name.now,
      sym c.in-Some.ensures,
      (holds c.in-Some.name.now).0 (sym c.if-contains.ensures),
      c.named.ensures ∙ ap (refusal_at (codes "MadeElsewhere") c.in-Makes.place) c.in_ok-name.ensures,
    )

pub returns : goal.returns
returns c roles holds = walk_end (MakesHeld c.args.core.now roles) c.args.uses.now c.loop-used.used-index (c.loop-used.invariant roles holds)
    c.loop-used-test.false
