use Rattle.std.proofs.Common.{Some, reverse, refl, ap, ◌∙◌}
use Rattle.use_rules.specs.Flow.{flow}
use Rattle.use_rules.specs.State.{leaving}
use Rattle.use_flow.specs.View.{log_of}
use Rattle.use_flow.specs.inner.Followed.{seen}
use Rattle.use_flow.specs.inner.Jumping.{lead_of}
use Rattle.use_flow.specs.inner.Simple.{exit}
use Rattle.use_flow.proofs.Coursing.{jump_follows}
use Rattle.use_flow.proofs.scene.Scene.jump.Goals as goal

pub returns : goal.returns
returns c =
    jump_follows (seen c.args.self.now) c.args.place (lead_of c.args.lead) (reverse c.args.course.now.scope.items) c.args.stays.now
    c.in_ok-left.left.items c.args.sets (log_of c.args.course.now.log)
    c.args.course.now.scope.items c.args.course.now.jumps c.in_ok-now.now _
    (c.in_ok-left.ensures ∙ ap (λ y. leaving (reverse y) c.args.stays.now) c.as_slice.ensures.value)
    (λ js. c.in_ok-now.ensures js ∙
    ap (λ y. exit (seen c.args.self.now) c.args.place y (flow (Some c.args.sets) js (log_of c.args.course.now.log)))
    c.as_slice-2.ensures.value)
    c.in_ok-add.ensures refl
