use Rattle.std.proofs.Common.{subst, arith}
use Rattle.cls_rows.specs.Same.{SameOr}
use Rattle.cls_search.specs.Kept.{frame_at}
use Rattle.cls_search.proofs.LedLemmas.{past_code, kept_none, newly_kept, over_given, over_then}
use Rattle.cls_search.proofs.leading.Found.lead.Goals as goal

pub returns-then-place-len : goal.returns-then-place-len
returns-then-place-len c = λ s l. past_code s c.args.self.now c.args.left.now c.args.place l
    (omega (arith, c.if-place-len.true, c.len.ensures))

pub raise-requires : goal.raise-requires
raise-requires c = (
  c.requires.0,
  over_given c.requires.0 c.args.self.now c.in-Some.old c.args.left.now c.args.place
      (subst (SameOr (frame_at c.args.self.now c.args.place)) c.in-Some.is c.in_ok-kept.ensures) c.requires.1,
)

pub returns-in-Some : goal.returns-in-Some
returns-in-Some c = over_then c.args.self.now c.raise.new.self c.in-Some.old c.args.left.now c.args.place c.raise.result
    (subst (SameOr (frame_at c.args.self.now c.args.place)) c.in-Some.is c.in_ok-kept.ensures) c.raise.ensures

pub keep-requires : goal.keep-requires
keep-requires c = omega (arith, c.if-place-len.false, c.len.ensures)

pub returns : goal.returns
returns c = λ s l. newly_kept s c.args.self.now c.keep.new.self c.args.left.now c.in_ok-frame.frame c.args.place l c.in_ok-frame.ensures
    (omega (arith, c.if-place-len.false, c.len.ensures))
    (kept_none (frame_at c.args.self.now c.args.place)
    (subst (SameOr (frame_at c.args.self.now c.args.place)) c.in_default.is c.in_ok-kept.ensures))
    c.in_ok-keep.ensures.stacks c.in_ok-keep.ensures.frames c.in_ok-keep.ensures.waiting
