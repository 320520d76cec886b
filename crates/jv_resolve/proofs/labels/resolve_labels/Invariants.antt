use Rattle.std.proofs.Common.{◌≡◌, drop}
use Rattle.jv_tree.specs.View.{enum_of}
use Rattle.jv_resolve_law.specs.Statements.{labels_at}
use Rattle.jv_resolve.proofs.StmtLoops.{with_labels}
use Rattle.jv_resolve.proofs.labels.resolve_labels.Given as goal

abbrev pub invariant-loop-label : goal.invariant-loop-label
invariant-loop-label l =
    labels_at (enum_of l.of.of.now) l.labels ≡ with_labels l.resolved.items (labels_at (enum_of l.of.of.now) (drop l.label-index l.labels))
