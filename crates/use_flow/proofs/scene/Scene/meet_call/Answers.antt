use Rattle.std.proofs.Common.{refl}
use Rattle.mg_text.specs.Call.{Name}
use Rattle.jv_core.specs.Lookup.{text_at}
use Rattle.ts_tree.specs.Typestate.{Typestate}
use Rattle.use_rules.specs.Elements.{along, targets, unless_called}
use Rattle.use_rules.specs.Keys.{typestate_of}
use Rattle.use_elements.specs.Mappings.{title_in}
use Rattle.use_elements.proofs.Rests.{image_turn, judged_turn}
use Rattle.use_flow.specs.inner.Followed.{seen}
use Rattle.use_flow.proofs.Seeking.{offering_turn}
use Rattle.use_flow.proofs.scene.Scene.meet_call.Goals as goal

pub loop-element-preserved : goal.loop-element-preserved
loop-element-preserved c =
    let t : Typestate = typestate_of (seen c.args.self.now).program c.args.call.class in
    let m : Name = text_at (seen c.args.self.now).program c.args.call.name.0 in
    let x : Name = title_in c.args.names.now c.args.subject.title in (
      judged_turn (unless_called t m) c.args.subject.place c.args.subject.variable x c.args.subject.class c.in-Some.element
          c.loop-element.element-iterator c.next.new.self c.loop-element.failed.items c.meet_element.new.failed.items _
          (unless_called t m c.in-Some.element) c.in-Some.ensures.steps refl c.in_ok-meet_element.ensures.demands c.loop-element.invariant.0,
      offering_turn t m c.in-Some.element c.loop-element.element-iterator c.next.new.self c.loop-element.met.states.items
          c.meet_element.new.met.states.items _ c.in-Some.ensures.steps c.in_ok-meet_element.ensures.states c.loop-element.invariant.1,
      image_turn (along targets t m) c.in-Some.element c.loop-element.element-iterator c.next.new.self
          (along targets t m c.in-Some.element) c.loop-element.met.led c.meet_element.new.met.led _ c.in-Some.ensures.steps refl
          c.in_ok-meet_element.ensures.led c.loop-element.invariant.2,
    )
