use Rattle.std.proofs.Common.{map, ap, refl}
use Rattle.std.proofs.lemmas.Result.{err_from_is_err_and}
use Rattle.jv_tree.specs.View.{stmt_of, stmts_of, method_of}
use Rattle.jv_rules.specs.Scope.{entered}
use Rattle.jv_types.specs.Tables.{program_in}
use Rattle.jv_types.specs.inner.Locals.{locals_seen}
use Rattle.jv_types.specs.inner.Tabled.{class_in}
use Rattle.jv_types.proofs.MethodSteps.{params_wrong, body_wrong, end_tells}
use Rattle.jv_types.proofs.methods.check_method.Goals as goal

pub returns-in_err-check_params : goal.returns-in_err-check_params
returns-in_err-check_params c =
    let r = err_from_is_err_and c.from_residual.result c.from_residual.ensures.1 in
    let p = program_in c.args.table.now in
    let k = class_in c.args.class.now in
    let m = method_of c.args.method.now in
    rw (r.1, r.2)
    (params_wrong p k m c.as_slice.result.now (stmts_of (map stmt_of c.args.method.now.body.items)) c.as_slice.ensures.items refl
    c.in_err-check_params.field-0.0 _ (ap (λ l. record (entered p k m) { locals = locals_seen l }) c.new-locals.ensures)
    c.in_err-check_params.ensures.told)

pub returns-in_err-check_stmts : goal.returns-in_err-check_stmts
returns-in_err-check_stmts c =
    let r = err_from_is_err_and c.from_residual-in_err-check_stmts.result c.from_residual-in_err-check_stmts.ensures.1 in
    let p = program_in c.args.table.now in
    let k = class_in c.args.class.now in
    let m = method_of c.args.method.now in
    rw (r.1, r.2)
    (body_wrong p k m c.as_slice.result.now (stmts_of (map stmt_of c.as_slice-2.result.now)) c.as_slice.ensures.items
    (ap (λ xs. stmts_of (map stmt_of xs)) c.as_slice-2.ensures.items)
    _ _ (ap (λ l. record (entered p k m) { locals = locals_seen l }) c.new-locals.ensures) c.in_ok-check_params.ensures.scope
    c.in_ok-check_params.ensures.told
    c.in_err-check_stmts.field-0.0 c.in_err-check_stmts.ensures.told)

pub returns : goal.returns
returns c =
    let p = program_in c.args.table.now in
    let k = class_in c.args.class.now in
    let m = method_of c.args.method.now in
    end_tells p k m c.as_slice.result.now (stmts_of (map stmt_of c.as_slice-2.result.now)) c.as_slice.ensures.items
    (ap (λ xs. stmts_of (map stmt_of xs)) c.as_slice-2.ensures.items)
    _ _ (ap (λ l. record (entered p k m) { locals = locals_seen l }) c.new-locals.ensures) c.in_ok-check_params.ensures.scope
    c.in_ok-check_params.ensures.told
    c.in_ok-check_stmts.ensures.told c.check_end.result c.check_end.ensures
