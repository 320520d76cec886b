use Rattle.std.proofs.Common.{map, arith}
use Rattle.std.proofs.lemmas.Grind.{common_steps}
use Rattle.jv_tree.specs.View.{group_of, groups_of}
use Rattle.jv_rules.specs.Conditions.{cases}
use Rattle.jv_types.proofs.Choosing.{labels_more}
use Rattle.jv_types.proofs.switches.labels_of.Goals as goal

pub loop-group-preserved : goal.loop-group-preserved
loop-group-preserved c =
    labels_more c.args.groups.now c.loop-group.group-index c.group-item.result c.loop-group-test.true c.group-item.is
    (map (λ l. l.now) c.loop-group.all.items) (map (λ l. l.now) c.add_labels.new.all.items)
    c.as_slice.result.now (cases (groups_of (map group_of c.args.groups.now))) c.loop-group.invariant c.in_ok-add_labels.ensures
    c.as_slice.ensures.items

pub returns : goal.returns
returns c = grind (arith, common_steps)
