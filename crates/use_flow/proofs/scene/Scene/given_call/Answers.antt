use Rattle.std.proofs.Common.{refl, ap, ◌∙◌}
use Rattle.jv_core.specs.View.{method_of}
use Rattle.use_elements.specs.Mappings.{title_in}
use Rattle.use_flow.specs.inner.Followed.{seen}
use Rattle.use_flow.proofs.Called.{call_is}
use Rattle.use_flow.proofs.scene.Scene.given_call.Goals as goal

pub returns : goal.returns
returns c =
    call_is (seen c.args.self.now) c.args.receiver c.args.number (method_of c.args.method.now) c.args.args.now c.args.sets _ _ _
    _ _ _ _ _ _ _ _ _ _ _ _ _ _ _ _ _
    refl refl c.variable_at-at.ensures c.in_ok-set.ensures
    (c.as_slice.ensures.value ∙ c.in_ok-met.ensures.states) (c.as_slice-2.ensures.value ∙ c.in_ok-met.ensures.states)
    c.subject-subject.ensures.place c.subject-subject.ensures.number
    (ap (λ names. title_in names c.subject-subject.result.title) c.names-names.ensures ∙ c.subject-subject.ensures.name)
    c.subject-subject.ensures.class
    c.variable_width-width.ensures c.in_ok-result.ensures c.in_ok-met.ensures.led c.put.ensures c.in_ok-send_states.ensures
    c.in_ok-met.ensures.demands c.in_ok-see.ensures
