use Rattle.std.proofs.Common.{◌∙◌, ap}
use Rattle.std.specs.Prelude.{string_bytes, slice_set}
use Rattle.std.proofs.lemmas.Result.{on_ok_weaker}
use Rattle.vm_events.specs.Seen.{role_event_of}
use Rattle.mg_trace.specs.inner.Kept.{objects_at}
use Rattle.mg_trace.specs.inner.Tabled.{telling_of}
use Rattle.mg_trace.proofs.Telling.{are_known_same, are_known_more, told_more}
use Rattle.mg_trace.proofs.Tracks.{role_changed}
use Rattle.mg_trace.proofs.tracing.push_next.Goals as goal

pub returns : goal.returns
returns c = λ before known lines.
    let t = telling_of c.args.answers in
    let e = role_event_of c.args.seen in
    let within = c.in_ok-make_room.ensures.within in
    let roles = c.make_room.new.roles.items in
    let are = are_known_same c.args.roles.now.items roles before known c.in_ok-make_room.ensures.same in
    on_ok_weaker c.note.result
    (λ keeps. (
      are_known_more roles (slice_set roles e.role c.note.new.objects) before e are
          (role_changed roles e within c.index_mut.result.now c.note.new.objects c.index_mut.ensures.value keeps),
      told_more t c.args.names.now roles before e c.role_name-name.result.now c.objects_of-objects.result.now
          (string_bytes c.args.lines.now) (string_bytes c.push_line.new.lines) are c.role_name-name.ensures
          (c.objects_of-objects.ensures ∙ ap (λ l. objects_at l e.role) c.as_slice.ensures.value) lines
          (c.in_ok-push_line.ensures c.requires),
    ))
    c.note.ensures
