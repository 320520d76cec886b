use Rattle.std.proofs.Common.{◌≡◌, drop}
use Rattle.jv_rules.specs.Scope.{with_params}
use Rattle.jv_types.specs.inner.Scopes.{scope_seen}
use Rattle.jv_types.specs.inner.Stating.{params_fault}
use Rattle.jv_types.proofs.params.check_params.Given as goal

abbrev pub invariant-loop-param : goal.invariant-loop-param
invariant-loop-param l = record {
  left : params_fault (scope_seen l.scope l.initial.locals) l.params ≡ params_fault (scope_seen l.scope l.locals)
      (drop l.param-index l.params);
  scope : with_params l.params (scope_seen l.scope l.initial.locals) ≡ with_params (drop l.param-index l.params)
      (scope_seen l.scope l.locals);
}
