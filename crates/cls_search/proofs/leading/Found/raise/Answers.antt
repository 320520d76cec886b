use Rattle.std.proofs.Common.{◌∙◌, sym, subst, refl, MatchOption}
use Rattle.cls_kinds.specs.Stacks.{Grows}
use Rattle.cls_search.specs.Led.{Stays, RaisesTo}
use Rattle.cls_search.proofs.LedLemmas.{over_fits, over_width, over_within, over_uneven, over_stays, over_first, over_raised}
use Rattle.cls_search.proofs.leading.Found.raise.Goals as goal

pub depth-requires : goal.depth-requires
depth-requires c = (over_fits c.requires.0 c.args.self.now c.args.old c.args.left.now c.args.place c.requires.1).there

pub depth-requires-2 : goal.depth-requires-2
depth-requires-2 c = c.requires.1.led.fits.there

pub join_frames-requires-clause-width : goal.join_frames-requires-clause-width
join_frames-requires-clause-width c = over_width c.requires.0 c.args.self.now c.args.old c.args.left.now c.args.place c.requires.1

pub join_frames-requires-clause-first : goal.join_frames-requires-clause-first
join_frames-requires-clause-first c = (over_fits c.requires.0 c.args.self.now c.args.old c.args.left.now c.args.place c.requires.1).there

pub join_frames-requires-clause-second : goal.join_frames-requires-clause-second
join_frames-requires-clause-second c = c.requires.1.led.fits.there

pub keep-requires : goal.keep-requires
keep-requires c = over_within c.requires.0 c.args.self.now c.args.old c.args.left.now c.args.place c.requires.1

pub returns-then-depth : goal.returns-then-depth
returns-then-depth c = λ s l. over_uneven s c.args.self.now c.args.old c.args.left.now c.args.place l
    (λ e. c.if-depth.true (c.depth.ensures ∙ e ∙ sym c.depth-2.ensures))

pub returns-in_default : goal.returns-in_default
returns-in_default c = λ s l.
    over_stays s c.args.self.now c.args.old c.args.left.now c.args.place l (sym c.depth.ensures ∙ c.if-depth.false ∙ c.depth-2.ensures) _
    (subst (λ o. MatchOption o (Stays c.args.self.now.stacks c.args.old c.args.left.now)
    (λ g. RaisesTo c.args.self.now.stacks c.join_frames.new.stacks c.args.old c.args.left.now g)) c.in_default.is
    c.in_ok-joined.ensures.joined)
    c.in_ok-joined.ensures.grows refl refl

pub returns-then-place-eq0 : goal.returns-then-place-eq0
returns-then-place-eq0 c = λ s l.
    over_first s c.args.self.now c.args.old c.args.left.now c.args.place l (sym c.depth.ensures ∙ c.if-depth.false ∙ c.depth-2.ensures)
    c.join_frames.new.stacks c.in-Some.frame
    (subst (λ o. MatchOption o (Stays c.args.self.now.stacks c.args.old c.args.left.now)
    (λ g. RaisesTo c.args.self.now.stacks c.join_frames.new.stacks c.args.old c.args.left.now g)) c.in-Some.is
    c.in_ok-joined.ensures.joined)
    c.if-place-eq0.true

pub returns : goal.returns
returns c = λ s l.
    over_raised s c.args.self.now c.args.old c.args.left.now c.args.place l (sym c.depth.ensures ∙ c.if-depth.false ∙ c.depth-2.ensures)
    c.keep.new.self c.in-Some.frame
    (let up : RaisesTo c.args.self.now.stacks c.join_frames.new.stacks c.args.old c.args.left.now c.in-Some.frame =
    subst (λ o. MatchOption o (Stays c.args.self.now.stacks c.args.old c.args.left.now)
    (λ g. RaisesTo c.args.self.now.stacks c.join_frames.new.stacks c.args.old c.args.left.now g)) c.in-Some.is
    c.in_ok-joined.ensures.joined in
    subst (λ st. RaisesTo c.args.self.now.stacks st c.args.old c.args.left.now c.in-Some.frame) (sym c.in_ok-keep.ensures.stacks) up)
    (subst (Grows c.args.self.now.stacks) (sym c.in_ok-keep.ensures.stacks) c.in_ok-joined.ensures.grows) c.if-place-eq0.false
    c.in_ok-keep.ensures.frames c.in_ok-keep.ensures.waiting
