use Rattle.std.proofs.Common.{◌∙◌, ap}
use Rattle.std.proofs.lemmas.Result.{on_ok_weaker}
use Rattle.vm_events.specs.Seen.{event_of}
use Rattle.mg_trace.specs.inner.Kept.{known_at, changed}
use Rattle.mg_trace.proofs.Tracks.{known_changed, known_is, told_of_none, told_of_one}
use Rattle.mg_trace.proofs.objects.note.Goals as goal

pub returns-in-None : goal.returns-in-None
returns-in-None c o = told_of_none (event_of c.args.event) c.in-None.ensures (known_at c.args.objects.now.items o) o

pub returns-in_ok-pad-in-Some : goal.returns-in_ok-pad-in-Some
returns-in_ok-pad-in-Some c =
    let e = event_of c.args.event in
    let old = c.args.objects.now.items in
    let objects = c.pad.new.objects.items in
    let n = c.in-Some.object in
    let room = c.in_ok-pad-in-Some.ensures in
    on_ok_weaker c.change.result
    (λ is o. known_changed old objects n room.within room.same c.change.new.tracked (λ k. changed k e)
    (is ∙ ap (λ k. changed k e) (known_is objects n c.index_mut.result.now room.within c.index_mut.ensures.value)) o
    ∙ told_of_one e n c.in-Some.ensures (known_at old o) o)
    c.change.ensures
