use Rattle.std.proofs.Common.{◌∙◌, ap, arith}
use Rattle.std.proofs.lemmas.List.{take_all}
use Rattle.mg_trace.specs.Trace.{printed}
use Rattle.mg_trace.proofs.Prints.{printed_next}
use Rattle.mg_trace.proofs.printing.printed.Goals as goal

pub loop-place-preserved : goal.loop-place-preserved
loop-place-preserved c =
    printed_next c.args.named c.args.names.now c.args.events.now.items c.loop-place.place c.loop-place.bytes c.put_next.new.bytes
    c.loop-place.invariant c.in_ok-put_next.ensures

pub returns : goal.returns
returns c =
    c.loop-place.invariant
    ∙ ap (printed c.args.named c.args.names.now)
    (take_all c.loop-place.place c.args.events.now.items (omega (arith, c.loop-place-test.false, c.len-place-end.ensures.value)))
