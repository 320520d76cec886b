use Rattle.std.proofs.Common.{subst, arith}
use Rattle.cls_rows.specs.Frames.{kinds_at}
use Rattle.cls_rows.specs.Same.{SameOr}
use Rattle.cls_search.specs.Kept.{frame_at}
use Rattle.cls_search.specs.Walking.{StrideIs}
use Rattle.cls_search.proofs.Striding.{walk_nowhere, way_begins, way_stands, way_goes, way_ends, way_past}
use Rattle.cls_search.proofs.leading.Found.walk.Goals as goal

pub returns-in_default : goal.returns-in_default
returns-in_default c = λ s w. walk_nowhere s c.args.self.now c.args.body c.args.from w
    (subst (SameOr (frame_at c.args.self.now c.args.from)) c.in_default.is c.in_ok-kept.ensures)

pub steps-init : goal.steps-init
steps-init c = λ s w. way_begins s c.args.self.now c.args.body c.args.from w c.in-Some.first
    (subst (SameOr (frame_at c.args.self.now c.args.from)) c.in-Some.is c.in_ok-kept.ensures)

pub step-requires : goal.step-requires
step-requires c =
    let s = c.requires.0 in
    let w = c.requires.1 in
    (s, way_stands s c.args.self.now c.args.body c.args.from w c.steps.self c.steps.place c.steps.frame (c.steps.invariant s w))

pub returns-in-Fails : goal.returns-in-Fails
returns-in-Fails c = λ s w.
    let stands = way_stands s c.args.self.now c.args.body c.args.from w c.steps.self c.steps.place c.steps.frame (c.steps.invariant s w) in
    subst (StrideIs s c.steps.self c.step.new.self c.steps.place (kinds_at s.names s.rest c.steps.self.stacks c.steps.frame)) c.in-Fails.is
    (c.in_ok-stride.ensures s stands)

pub returns-in-Ends : goal.returns-in-Ends
returns-in-Ends c = λ s w.
    let o = c.steps.invariant s w in
    let stands = way_stands s c.args.self.now c.args.body c.args.from w c.steps.self c.steps.place c.steps.frame o in
    way_ends s c.args.self.now c.args.body c.args.from w c.steps.self c.steps.place c.steps.frame o c.step.new.self
    (subst (StrideIs s c.steps.self c.step.new.self c.steps.place (kinds_at s.names s.rest c.steps.self.stacks c.steps.frame)) c.in-Ends.is
    (c.in_ok-stride.ensures s stands))

pub steps-preserved : goal.steps-preserved
steps-preserved c = λ s w.
    let o = c.steps.invariant s w in
    let stands = way_stands s c.args.self.now c.args.body c.args.from w c.steps.self c.steps.place c.steps.frame o in
    way_goes s c.args.self.now c.args.body c.args.from w c.steps.self c.steps.place c.steps.frame o c.step.new.self c.in-On.left
    (subst (StrideIs s c.steps.self c.step.new.self c.steps.place (kinds_at s.names s.rest c.steps.self.stacks c.steps.frame)) c.in-On.is
    (c.in_ok-stride.ensures s stands))

pub returns : goal.returns
returns c = λ s w. way_past s c.args.self.now c.args.body c.args.from w c.steps.self c.steps.place c.steps.frame (c.steps.invariant s w)
    (omega (arith, c.steps-test.false))
