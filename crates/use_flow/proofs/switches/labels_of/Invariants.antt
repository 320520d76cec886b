use Rattle.std.proofs.Common.{◌≡◌, false, drop, map}
use Rattle.jv_core.specs.View.{group_of, groups_of}
use Rattle.use_rules.specs.Elements.{none}
use Rattle.use_rules.specs.Flow.{all_labels}
use Rattle.use_flow.specs.inner.Switching.{noted}
use Rattle.use_flow.proofs.switches.labels_of.Given as goal

abbrev pub invariant-loop-group : goal.invariant-loop-group
invariant-loop-group l =
    noted (all_labels (groups_of (map group_of (drop l.group-index l.groups)))) l.labels
    ≡ noted (all_labels (groups_of (map group_of l.groups))) (record { cased = none l.width; has_default = false })
