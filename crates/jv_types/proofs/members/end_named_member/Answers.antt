use Rattle.std.proofs.Common.{Some, sym, ap, ◌∙◌}
use Rattle.mg_read.specs.Culprit.{culprit}
use Rattle.jv_tree.specs.View.{expr_of}
use Rattle.jv_tree.proofs.ViewLaws.{place-expr}
use Rattle.jv_rules.specs.declared.condition.Condition.TheVariants as conditions
use Rattle.jv_types.specs.inner.Scopes.{scope_seen}
use Rattle.jv_types.proofs.MemberSteps.{at_class, at_nothing}
use Rattle.jv_types.proofs.members.end_named_member.Goals as goal

pub returns-then-names_class : goal.returns-then-names_class
returns-then-names_class c =
    at_class (scope_seen c.args.scope.now c.args.locals.now) c.args.place c.args.name.now (expr_of c.args.of.now) c.args.x.now c.requires
    c.in-None.ensures c.in-None-enum_named.ensures (sym c.if-names_class.true ∙ c.names_class.ensures)

pub returns-else-names_class : goal.returns-else-names_class
returns-else-names_class c =
    at_nothing (scope_seen c.args.scope.now c.args.locals.now) c.args.place c.args.name.now (expr_of c.args.of.now) c.args.x.now c.requires
    c.in-None.ensures c.in-None-enum_named.ensures (sym c.if-names_class.false ∙ c.names_class.ensures)
    ∙ ap (λ p. Some (conditions.UnknownName, culprit p c.args.x.now)) (place-expr c.args.of.now)
