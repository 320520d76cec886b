use Rattle.std.proofs.Common.{ap, sym, ◌∙◌, codes}
use Rattle.std.specs.HashMap.{get_by_text}
use Rattle.mg_text.specs.Call.{Name}
use Rattle.mg_refusal.specs.Refusals.{refusal_at}
use Rattle.mg_fits.specs.Conditions.{MakesNone}
use Rattle.fit_judge.proofs.Walks.{walk_start, walk_here, walk_later, walk_end}
use Rattle.fit_judge.proofs.Notes.{makes_none_here, makes_one}
use Rattle.fit_judge.proofs.makings.not_made.Goals as goal

pub loop-main-init : goal.loop-main-init
loop-main-init c = λ g ps. walk_start (MakesNone g ps c.args.core.now c.args.mains.now) c.args.mains.now

pub returns-in-Some : goal.returns-in-Some
returns-in-Some c = λ g ps.
    let main = c.main-item.result in
    walk_here (MakesNone g ps c.args.core.now c.args.mains.now) c.args.mains.now c.loop-main.main-index (c.loop-main.invariant g ps)
    main c.loop-main-test.true c.main-item.is c.named.result
    (makes_none_here c.args.core.now c.args.mains.now c.requires.differ main (c.loop-main.main-index, c.loop-main-test.true, sym c.main-item.is)
    c.in_ok-places.places (c.in_ok-places.ensures c.args.mains.now c.requires.makes) g ps c.in-Some.place.now
    (ap (λ (z : Name). get_by_text c.in_ok-places.places z) (sym c.as_str.ensures) ∙ sym c.in-Some.ensures.value) c.named.result
    (c.named.ensures ∙ ap (λ (n : Name). refusal_at (codes "NotMade") c.in-Some.place.now n) c.in_ok-copy.ensures))

pub loop-main-preserved : goal.loop-main-preserved
loop-main-preserved c = λ g ps.
    let main = c.main-item.result in
    walk_later (MakesNone g ps c.args.core.now c.args.mains.now) c.args.mains.now c.loop-main.main-index (c.loop-main.invariant g ps)
    main c.loop-main-test.true c.main-item.is
    (makes_one c.args.core.now c.args.mains.now c.requires.differ main (c.loop-main.main-index, c.loop-main-test.true, sym c.main-item.is)
    c.in_ok-places.places (c.in_ok-places.ensures c.args.mains.now c.requires.makes) g ps
    (ap (λ (z : Name). get_by_text c.in_ok-places.places z) (sym c.as_str.ensures) ∙ sym c.in_default.ensures.value))

pub returns : goal.returns
returns c = λ g ps.
    walk_end (MakesNone g ps c.args.core.now c.args.mains.now) c.args.mains.now c.loop-main.main-index (c.loop-main.invariant g ps)
    c.loop-main-test.false
