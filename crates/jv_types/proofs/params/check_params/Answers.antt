use Rattle.std.proofs.Common.{Some, refl, sym, ap, ◌∙◌}
use Rattle.std.specs.Option.{is_some}
use Rattle.std.proofs.lemmas.Result.{err_from_is_err_and}
use Rattle.mg_read.specs.Culprit.{culprit}
use Rattle.jv_rules.specs.declared.condition.Condition.TheVariants as conditions
use Rattle.jv_rules.specs.Scope.{declared_named, with_params}
use Rattle.jv_types.specs.inner.Locals.{locals_seen}
use Rattle.jv_types.specs.inner.Scopes.{scope_seen}
use Rattle.jv_types.specs.inner.Stating.{params_fault}
use Rattle.jv_types.proofs.LocalSteps.{not_named}
use Rattle.jv_types.proofs.StmtSteps.{unnamed}
use Rattle.jv_types.proofs.ParamSteps.{param_twice, param_more, param_scope, params_done, params_scope, declared_scope}
use Rattle.jv_types.proofs.params.check_params.Goals as goal

pub loop-param-init : goal.loop-param-init
loop-param-init c = record { left = refl; scope = refl }

pub returns-then-is_declared-clause-told : goal.returns-then-is_declared-clause-told
returns-then-is_declared-clause-told c =
    let x = c.param-item.result in
    param_twice (scope_seen c.args.scope.now c.loop-param.locals) c.args.params.now c.loop-param.param-index x c.loop-param-test.true
    c.param-item.is
    (params_fault (scope_seen c.args.scope.now c.args.locals.now) c.args.params.now) c.loop-param.invariant.left
    (ap (λ n. is_some (declared_named (locals_seen c.loop-param.locals) n)) (sym c.as_str-name.ensures) ∙ sym c.is_declared.ensures ∙
    c.if-is_declared.true)
    ∙ ap (λ n. Some (conditions.DuplicateLocal, culprit x.place n)) (sym c.as_str-name.ensures)

pub returns-in_err-declare-clause-told : goal.returns-in_err-declare-clause-told
returns-in_err-declare-clause-told c =
    let r = err_from_is_err_and c.from_residual.result c.from_residual.ensures.1 in
    rw (r.1, r.2) tt

pub declare-requires : goal.declare-requires
declare-requires c =
    not_named c.loop-param.locals c.as_str-name.result.now
    (unnamed (locals_seen c.loop-param.locals) c.as_str-name.result.now (sym c.is_declared.ensures ∙ c.if-is_declared.false))

pub loop-param-preserved : goal.loop-param-preserved
loop-param-preserved c =
    let x = c.param-item.result in
    let now = scope_seen c.args.scope.now c.loop-param.locals in
    let new = scope_seen c.args.scope.now c.declare.new.self in
    let e = declared_scope c.args.scope.now c.loop-param.locals c.declare.new.self x.name c.as_str-name.result.now
    c.meant.result x.ty c.in_ok-declare.ensures c.as_str-name.ensures c.meant.ensures in
    record {
      left = param_more now c.args.params.now c.loop-param.param-index x c.loop-param-test.true c.param-item.is
          (params_fault (scope_seen c.args.scope.now c.args.locals.now) c.args.params.now) new c.loop-param.invariant.left
          (ap (λ n. is_some (declared_named (locals_seen c.loop-param.locals) n)) (sym c.as_str-name.ensures) ∙ sym c.is_declared.ensures ∙
          c.if-is_declared.false) e;
      scope = param_scope now c.args.params.now c.loop-param.param-index x c.loop-param-test.true c.param-item.is
          (with_params c.args.params.now (scope_seen c.args.scope.now c.args.locals.now)) new c.loop-param.invariant.scope e;
    }

pub returns-clause-told : goal.returns-clause-told
returns-clause-told c =
    params_done (scope_seen c.args.scope.now c.loop-param.locals) c.args.params.now c.loop-param.param-index c.loop-param-test.false
    (params_fault (scope_seen c.args.scope.now c.args.locals.now) c.args.params.now) c.loop-param.invariant.left

pub returns-clause-scope : goal.returns-clause-scope
returns-clause-scope c =
    params_scope (scope_seen c.args.scope.now c.loop-param.locals) c.args.params.now c.loop-param.param-index c.loop-param-test.false
    (with_params c.args.params.now (scope_seen c.args.scope.now c.args.locals.now)) c.loop-param.invariant.scope
