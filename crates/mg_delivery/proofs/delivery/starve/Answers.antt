use Rattle.std.proofs.Common.{[], refl, Ok, Err}
use Rattle.mg_io.specs.declared.fault.IoFault.TheVariants as io
use Rattle.mg_delivery.specs.Delivery.{first, nothing, whole, cut, fails, lacks}
use Rattle.mg_delivery.specs.declared.delivery.Action.TheVariants.{Say}
use Rattle.mg_delivery.specs.Lines.{memory_line}
use Rattle.mg_delivery.specs.Outside.{stream}
use Rattle.mg_delivery.proofs.DeliveryLaws.{said}
use Rattle.mg_delivery.proofs.delivery.starve.Goals as goal

pub returns-in-Ok : goal.returns-in-Ok
returns-in-Ok g c = λ at e.
    whole (first (Say memory_line) _ (said at (stream (g.E.Sink.bytes c.args.err.now) (g.E.Sink.faults c.args.err.now))
    (stream (g.E.Sink.bytes c.put.new.self) (g.E.Sink.faults c.put.new.self)) c.as_bytes.result.now memory_line (Ok tt) e
    c.as_bytes.ensures.value c.in-Ok.ensures.bytes c.in-Ok.ensures.faults) nothing)

pub returns-in-Err-Failed : goal.returns-in-Err-Failed
returns-in-Err-Failed g c = λ at e.
    let put = rw c.in-Err-Failed.field-0-is at c.in-Err-Failed.ensures in
    cut [] (Say memory_line) [] at refl nothing
    (fails _ (said at (stream (g.E.Sink.bytes c.args.err.now) (g.E.Sink.faults c.args.err.now))
    (stream (g.E.Sink.bytes c.put.new.self) (g.E.Sink.faults c.put.new.self)) c.as_bytes.result.now memory_line (Err io.Failed) e
    c.as_bytes.ensures.value put.bytes put.faults) (refl, refl))

pub returns-in-Err-Memory : goal.returns-in-Err-Memory
returns-in-Err-Memory g c = λ at e.
    let put = rw c.in-Err-Memory.field-0-is at c.in-Err-Memory.ensures in
    cut [] (Say memory_line) [] at refl nothing
    (lacks (said at (stream (g.E.Sink.bytes c.args.err.now) (g.E.Sink.faults c.args.err.now))
    (stream (g.E.Sink.bytes c.put.new.self) (g.E.Sink.faults c.put.new.self)) c.as_bytes.result.now memory_line (Err io.Memory) e
    c.as_bytes.ensures.value put.bytes put.faults))
