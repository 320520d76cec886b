use Rattle.std.proofs.Common.{ap, arith}
use Rattle.std.proofs.lemmas.Grind.{common_steps}
use Rattle.std.proofs.lemmas.Result.{on_ok_weaker}
use Rattle.vm_events.specs.Seen.{event_of}
use Rattle.mg_trace.specs.inner.Tabled.{telling_of}
use Rattle.mg_trace.proofs.Telling.{left}
use Rattle.mg_trace.proofs.lines.push_event.Goals as goal

pub returns-in_ok-push_object-in-Leave : goal.returns-in_ok-push_object-in-Leave
returns-in_ok-push_object-in-Leave c = λ h.
    on_ok_weaker c.push_word.result
    (λ line. left (telling_of c.args.answers) c.args.objects.now (event_of c.args.event) c.in-Leave.object c.in-Leave.answer
    (ap event_of c.in-Leave.is)
    c.known-in-Leave.result.0.now c.known-in-Leave.result.1.now c.known-in-Leave.ensures.class c.known-in-Leave.ensures.method _ _ _ _
    c.in_ok-push_object-in-Leave.ensures line (c.told_word.ensures h))
    c.push_word.ensures

pub returns-in-Enter : goal.returns-in-Enter
returns-in-Enter c = grind (arith, common_steps)
