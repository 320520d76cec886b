use Rattle.vm_model.proofs.Queues.{on_ok}
use Rattle.vm_events.specs.Seen.{role_event_of}
use Rattle.mg_trace.proofs.Prints.{line_next}
use Rattle.mg_trace.proofs.printing.put_next.Goals as goal

pub returns : goal.returns
returns c =
    on_ok
    (line_next c.args.named c.args.names.now c.args.events.now.items c.args.place (role_event_of c.at-seen.result) c.at-seen.ensures
    c.role_name-name.result.now c.role_name-name.ensures c.args.bytes.now c.put_printed.new.bytes)
    c.put_printed.result c.put_printed.ensures
