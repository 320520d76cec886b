use Rattle.std.proofs.Common.{◌∙◌}
use Rattle.vm_frames.specs.Seen.{values_in}
use Rattle.vm_session.specs.State.{state_of}
use Rattle.vm_step.proofs.Frames.{makes_is}
use Rattle.vm_step.proofs.objects.make.Goals as goal

pub returns-clause-ok : goal.returns-clause-ok
returns-clause-ok c = λ q.
    makes_is c.args.linked.now q (state_of c.args.state.now) (state_of c.make.new.self)
    (state_of c.push.new.self) c.args.class c.in_ok-object.object c.place-place.result c.in_ok-name.name
    (values_in c.args.state.now.texts c.in_ok-fields.fields.items)
    (c.in_ok-name.ensures ∙ c.class_name.ensures) c.in_ok-object.ensures.number
    (c.in_ok-fields.ensures.values c.args.state.now.texts) c.in_ok-object.ensures.ok c.place-place.ensures c.push.ensures.machine
