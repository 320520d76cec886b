use Rattle.std.proofs.Common.{◌∙◌, refl, sym, ap}
use Rattle.vm_events.specs.Seen.{event_of}
use Rattle.vm_events.specs.declared.seen.SeenEvent.{SeenEvent}
use Rattle.mg_trace.specs.inner.Kept.{known_of, changed}
use Rattle.mg_trace.proofs.Tracks.{known_new, known_entered, known_left}
use Rattle.mg_trace.proofs.objects.change.Goals as goal

pub returns-in-Made : goal.returns-in-Made
returns-in-Made c =
    known_new c.in-Made.class c.clear.new.self c.in-Made.class.now refl c.clear.ensures.items
    ∙ ap (λ (e : SeenEvent). changed (known_of c.args.tracked.now) (event_of e)) (sym c.in-Made.is)

pub returns-in_ok-push-in-Enter : goal.returns-in_ok-push-in-Enter
returns-in_ok-push-in-Enter c =
    let k = known_of c.args.tracked.now in
    known_entered c.args.tracked.now c.push.new.self c.in-Enter.method k refl c.in_ok-push-in-Enter.ensures.items
    ∙ ap (λ (e : SeenEvent). changed k (event_of e)) (sym c.in-Enter.is)

pub returns-in-Leave : goal.returns-in-Leave
returns-in-Leave c =
    known_left c.args.tracked.now c.pop-method.new.self c.pop-method.result (known_of c.args.tracked.now) refl
    c.pop-method.ensures.items c.pop-method.ensures.cases c.pop-method.ensures.rest
    ∙ ap (λ (e : SeenEvent). changed (known_of c.args.tracked.now) (event_of e)) (sym c.in-Leave.is)
