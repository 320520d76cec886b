use Rattle.std.proofs.Common.{◌+◌, drop}
use Rattle.std.proofs.lemmas.Result.{err_from_is_err_and}
use Rattle.jv_resolve_law.specs.Members.{params}
use Rattle.jv_resolve.specs.inner.Counted.{counted_seen}
use Rattle.jv_resolve.specs.inner.Naming.{opened}
use Rattle.jv_resolve.specs.inner.Seen.{tables_seen}
use Rattle.jv_resolve.proofs.AtIndex.{drop_at, drop_end}
use Rattle.jv_resolve.proofs.MethodSteps.{params_more, params_fail, params_done}
use Rattle.jv_resolve.proofs.methods.resolve_params.Goals as goal

pub loop-param-preserved : goal.loop-param-preserved
loop-param-preserved c =
    params_more (tables_seen c.args.table.now) (params (tables_seen c.args.table.now) c.args.params.now c.args.body.now.locals
    (counted_seen c.args.body.now)) (drop c.loop-param.param-index c.args.params.now) c.loop-param.body.locals
    (counted_seen c.loop-param.body) c.loop-param.invariant c.param-item.result (drop (c.loop-param.param-index + 1) c.args.params.now)
    (drop_at c.args.params.now c.loop-param.param-index c.param-item.result c.loop-param-test.true c.param-item.is)
    (opened c.resolve_param.new.body.locals (counted_seen c.resolve_param.new.body)) c.in_ok-resolve_param.ensures

pub returns-in_err-resolve_param : goal.returns-in_err-resolve_param
returns-in_err-resolve_param c =
    let p = err_from_is_err_and c.from_residual.result c.from_residual.ensures.1 in
    rw (p.1, p.2) (params_fail (tables_seen c.args.table.now) (params (tables_seen c.args.table.now) c.args.params.now
    c.args.body.now.locals (counted_seen c.args.body.now)) (drop c.loop-param.param-index c.args.params.now) c.loop-param.body.locals
    (counted_seen c.loop-param.body) c.loop-param.invariant c.param-item.result (drop (c.loop-param.param-index + 1) c.args.params.now)
    (drop_at c.args.params.now c.loop-param.param-index c.param-item.result c.loop-param-test.true c.param-item.is)
    c.in_err-resolve_param.field-0.0 c.in_err-resolve_param.ensures)

pub returns : goal.returns
returns c = params_done (tables_seen c.args.table.now) (params (tables_seen c.args.table.now) c.args.params.now c.args.body.now.locals
    (counted_seen c.args.body.now)) (drop c.loop-param.param-index c.args.params.now) c.loop-param.body.locals
    (counted_seen c.loop-param.body) c.loop-param.invariant (drop_end c.args.params.now c.loop-param.param-index c.loop-param-test.false)
