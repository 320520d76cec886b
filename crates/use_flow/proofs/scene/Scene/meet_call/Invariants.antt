use Rattle.std.proofs.Common.{◌≡◌, ◌++◌}
use Rattle.jv_core.specs.Lookup.{text_at}
use Rattle.use_rules.specs.Elements.{along, image, marked, offering, targets, unless_called}
use Rattle.use_rules.specs.Keys.{typestate_of}
use Rattle.use_rules.specs.State.{judged}
use Rattle.use_elements.specs.Mappings.{title_in}
use Rattle.use_elements.proofs.Rests.{blamed_all, led_all}
use Rattle.use_flow.specs.inner.Followed.{seen}
use Rattle.use_flow.proofs.Seeking.{offered_all}
use Rattle.use_flow.proofs.scene.Scene.meet_call.Given as goal

abbrev pub invariant-loop-element : goal.invariant-loop-element
invariant-loop-element l =
    let t = typestate_of (seen l.self).program l.call.class in
    let m = text_at (seen l.self).program l.call.name.0 in
    let x = title_in l.names l.subject.title in
    (l.failed.items ++ blamed_all (unless_called t m) l.subject.place l.subject.variable x l.subject.class l.element-iterator
    ≡ l.initial.failed.items ++ judged (unless_called t m) l.subject.place l.subject.variable x l.subject.class l.set)
    × (l.met.states.items ++ offered_all t m l.element-iterator ≡ offering t m l.set)
    × (marked (led_all (along targets t m) l.element-iterator) l.met.led ≡ image l.width (along targets t m) l.set)
