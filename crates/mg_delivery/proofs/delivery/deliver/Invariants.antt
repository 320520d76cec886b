use Rattle.std.proofs.Common.{take}
use Rattle.mg_delivery.specs.Outside.{outside, stream}
use Rattle.mg_delivery.specs.Delivery.{AreDone}
use Rattle.mg_delivery.proofs.delivery.deliver.Given as goal

abbrev pub invariant-loop-action : goal.invariant-loop-action
invariant-loop-action g l =
    AreDone (take l.action-index l.actions)
    (outside (g.F.Folder.files l.fn.folder) (g.F.Folder.failed_reads l.fn.folder) (g.F.Folder.failed_writes l.fn.folder)
    (stream (g.O.Sink.bytes l.fn.out) (g.O.Sink.faults l.fn.out)) (stream (g.E.Sink.bytes l.fn.err) (g.E.Sink.faults l.fn.err)))
    (outside (g.F.Folder.files l.folder) (g.F.Folder.failed_reads l.folder) (g.F.Folder.failed_writes l.folder)
    (stream (g.O.Sink.bytes l.out) (g.O.Sink.faults l.out)) (stream (g.E.Sink.bytes l.err) (g.E.Sink.faults l.err)))
