use Rattle.use_flow.proofs.Choosing.{groups_noted}
use Rattle.use_flow.proofs.switches.labels_of.Goals as goal

pub loop-group-preserved : goal.loop-group-preserved
loop-group-preserved c =
    groups_noted c.args.groups.now c.loop-group.group-index c.group-item.result c.as_slice.result.now c.loop-group.labels
    c.note_labels.new.labels _ c.loop-group-test.true
    c.group-item.is c.as_slice.ensures.items c.note_labels.ensures c.loop-group.invariant
