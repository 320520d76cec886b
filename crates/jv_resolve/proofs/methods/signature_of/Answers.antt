use Rattle.std.proofs.Common.{sym, ap, ◌∙◌}
use Rattle.std.proofs.lemmas.Result.{err_from_is_err_and}
use Rattle.jv_tree.specs.View.{method_of}
use Rattle.jv_resolve_law.specs.Tables.{interned}
use Rattle.jv_resolve.specs.inner.Seen.{tables_seen}
use Rattle.jv_resolve.proofs.MethodSteps.{signature_fails, signature_made}
use Rattle.jv_resolve.proofs.methods.signature_of.Goals as goal

pub returns-in_err-result-clause-it : goal.returns-in_err-result-clause-it
returns-in_err-result-clause-it c =
    let p = err_from_is_err_and c.from_residual-in_err-result.result c.from_residual-in_err-result.ensures.1 in
    rw (p.1, p.2)
    (signature_fails (tables_seen c.args.table.now) c.args.names.now (method_of c.args.method.now) c.in_ok-name.name.0 c.add_name.new.names
    (ap (interned c.args.names.now) (sym c.as_str.ensures) ∙ c.in_ok-name.ensures.number)
    c.in_err-result.field-0.0 c.in_err-result.ensures)

pub returns-clause-it : goal.returns-clause-it
returns-clause-it c =
    signature_made (tables_seen c.args.table.now) c.args.names.now (method_of c.args.method.now) c.in_ok-name.name.0 c.add_name.new.names
    (ap (interned c.args.names.now) (sym c.as_str.ensures) ∙ c.in_ok-name.ensures.number)
    c.in_ok-result.result c.in_ok-result.ensures

pub returns-clause-params : goal.returns-clause-params
returns-clause-params c = c.in_ok-params.ensures ∙ c.len.ensures.value
