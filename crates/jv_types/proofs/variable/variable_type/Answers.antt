use Rattle.std.proofs.Common.{Some, ◌∙◌}
use Rattle.jv_rules.specs.Scope.{field_type}
use Rattle.jv_types.specs.inner.Scopes.{scope_seen}
use Rattle.jv_types.proofs.LocalSteps.{local_there, local_missing}
use Rattle.jv_types.proofs.variable.variable_type.Goals as goal

pub returns-in-Some : goal.returns-in-Some
returns-in-Some c =
    local_there c.args.locals.now c.args.name.now (field_type (scope_seen c.args.scope.now c.args.locals.now) c.args.name.now) (λ t. Some t)
    c.in-Some.ty c.in-Some.ensures

pub returns-in-None : goal.returns-in-None
returns-in-None c =
    c.field_type.ensures
    ∙ local_missing c.args.locals.now c.args.name.now (field_type (scope_seen c.args.scope.now c.args.locals.now) c.args.name.now)
    (λ t. Some t) c.in-None.ensures
