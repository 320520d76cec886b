use Rattle.std.proofs.Common.{sym, ap, ◌∙◌, Some}
use Rattle.jv_types.specs.inner.Scopes.{scope_seen}
use Rattle.jv_types.proofs.StmtSteps.{label_fine, label_wrong}
use Rattle.jv_types.proofs.jumps.check_label.Goals as goal

pub returns-then-is_within_label : goal.returns-then-is_within_label
returns-then-is_within_label c =
    label_wrong (scope_seen c.args.scope.now c.args.locals.now) c.args.place c.args.label.now c.as_str-name.result.now
    (c.in-Some.is ∙ ap Some (sym c.as_str-name.ensures))
    (c.if-is_within_label.ensures)

pub returns-else-is_within_label : goal.returns-else-is_within_label
returns-else-is_within_label c =
    label_fine (scope_seen c.args.scope.now c.args.locals.now) c.args.place c.args.label.now c.as_str-name.result.now
    (c.in-Some.is ∙ ap Some (sym c.as_str-name.ensures))
    (c.if-is_within_label.ensures)
