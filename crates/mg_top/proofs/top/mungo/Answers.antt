use Rattle.std.proofs.Common.{refl}
use Rattle.mg_delivery.specs.Outside.{stream}
use Rattle.mg_top.proofs.CommandLemmas.{starved_due}
use Rattle.mg_top.proofs.Promised.{promised}
use Rattle.mg_top.proofs.Theorems.{theorems}
use Rattle.mg_top.proofs.top.mungo.Goals as goal

pub returns-in-Ok : goal.returns-in-Ok
returns-in-Ok g c =
    promised (theorems c.courses_are_runs.ensures c.each_order_has_a_course.ensures c.written_classes_are_typable.ensures.compiled
    c.written_classes_are_typable.ensures.ran c.typable_runs_never_bad.ensures) c.args.words.now _ c.deliver.result _ (record {
      actions = c.in-Ok.delivery.actions.items;
      meant = c.in-Ok.delivery.status;
      at = _;
      due = c.in-Ok.ensures (stream (g.O.Sink.bytes c.args.out.now) (g.O.Sink.faults c.args.out.now))
          (stream (g.E.Sink.bytes c.args.err.now) (g.E.Sink.faults c.args.err.now));
      delivered = c.deliver.ensures;
    })

pub returns-in-Err : goal.returns-in-Err
returns-in-Err g c =
    promised (theorems c.courses_are_runs.ensures c.each_order_has_a_course.ensures c.written_classes_are_typable.ensures.compiled
    c.written_classes_are_typable.ensures.ran c.typable_runs_never_bad.ensures) c.args.words.now _ c.starve.result _ (record {
      actions = _;
      meant = _;
      at = _;
      due = starved_due c.args.words.now _ _ (c.in-Err.ensures (stream (g.O.Sink.bytes c.args.out.now) (g.O.Sink.faults c.args.out.now))
          (stream (g.E.Sink.bytes c.args.err.now) (g.E.Sink.faults c.args.err.now)));
      delivered = c.starve.ensures _ refl;
    })
