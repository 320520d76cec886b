use Rattle.std.proofs.Common.{None, ◌∙◌}
use Rattle.jv_rules.specs.Scope.{own_field}
use Rattle.jv_types.specs.inner.Scopes.{scope_seen}
use Rattle.jv_types.proofs.LocalSteps.{local_there, local_missing}
use Rattle.jv_types.proofs.receivers.field_named.Goals as goal

pub returns-in-Some : goal.returns-in-Some
returns-in-Some c =
    local_there c.args.locals.now c.args.name.now (own_field (scope_seen c.args.scope.now c.args.locals.now) c.args.name.now) (λ t. None)
    c.in-Some._ty c.in-Some.ensures

pub returns-in-None : goal.returns-in-None
returns-in-None c =
    c.own_field.ensures
    ∙ local_missing c.args.locals.now c.args.name.now (own_field (scope_seen c.args.scope.now c.args.locals.now) c.args.name.now)
    (λ t. None) c.in-None.ensures
