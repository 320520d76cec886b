use Rattle.std.proofs.Common.{[], ◌∙◌, sym, ap, subst, take, arith}
use Rattle.std.proofs.lemmas.List.{take_all}
use Rattle.vm_events.specs.Seen.{role_event_of}
use Rattle.mg_trace.specs.Trace.{lines_from}
use Rattle.mg_trace.specs.inner.Kept.{AreKnown}
use Rattle.mg_trace.specs.inner.Tabled.{telling_of}
use Rattle.mg_trace.proofs.Telling.{up_to_seen}
use Rattle.mg_trace.proofs.tracing.told.Goals as goal

pub loop-place-preserved : goal.loop-place-preserved
loop-place-preserved c =
    let events = c.args.events.now.items in
    let place = c.loop-place.place in
    let more = up_to_seen events place (role_event_of c.at-seen.result) c.at-seen.ensures in
    let next = c.in_ok-push_next.ensures (take place events) c.loop-place.invariant.known c.loop-place.invariant.lines in
    record {
      known = subst (λ es. AreKnown c.push_next.new.roles.items es) (sym more) next.0;
      lines = next.1 ∙ ap (λ es. lines_from (telling_of c.args.answers) c.args.names.now [] es) (sym more);
    }

pub returns : goal.returns
returns c =
    let events = c.args.events.now.items in
    let place = c.loop-place.place in
    let all = take_all place events (omega (arith, c.loop-place-test.false, c.len-place-end.ensures.value)) in
    c.from_string.ensures ∙ c.loop-place.invariant.lines ∙ ap (λ es. lines_from (telling_of c.args.answers) c.args.names.now [] es) all
