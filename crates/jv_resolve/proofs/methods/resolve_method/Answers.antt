use Rattle.std.proofs.Common.{map}
use Rattle.std.proofs.lemmas.Result.{err_from_is_err_and}
use Rattle.jv_tree.specs.View.{method_of as source_method}
use Rattle.jv_core.specs.View.{stmt_of}
use Rattle.jv_resolve.specs.inner.Counted.{counted_seen, counting}
use Rattle.jv_resolve.specs.inner.Naming.{naming}
use Rattle.jv_resolve.specs.inner.Seen.{entry_seen, tables_seen}
use Rattle.jv_resolve.specs.inner.SignaturesSeen.{signature_seen}
use Rattle.jv_resolve.proofs.MethodSteps.{method_signature_fails, method_body_fails, method_made}
use Rattle.jv_resolve.proofs.methods.resolve_method.Goals as goal

pub returns-in_err-signature : goal.returns-in_err-signature
returns-in_err-signature c =
    let p = err_from_is_err_and c.from_residual.result c.from_residual.ensures.1 in
    rw (p.1, p.2) (method_signature_fails (tables_seen c.args.table.now) c.args.names (entry_seen c.args.entry.now)
    (source_method c.args.method.now) c.in_err-signature.field-0.0 c.in_err-signature.ensures.it)

pub returns-in_err-stmts : goal.returns-in_err-stmts
returns-in_err-stmts c =
    let p = err_from_is_err_and c.from_residual-in_err-stmts.result c.from_residual-in_err-stmts.ensures.1 in
    rw (p.1, p.2)
    (method_body_fails (tables_seen c.args.table.now) c.args.names (entry_seen c.args.entry.now) (source_method c.args.method.now)
    (naming (signature_seen c.in_ok-signature.signature) c.signature_of.new.names) c.in_ok-signature.ensures.it c.new-body.result.locals
    (counted_seen c.new-body.result) c.new-body.ensures.locals c.new-body.ensures.counted
    c.in_err-stmts.field-0.0 c.in_err-stmts.ensures)

pub returns : goal.returns
returns c =
    method_made (tables_seen c.args.table.now) c.args.names (entry_seen c.args.entry.now) (source_method c.args.method.now)
    (naming (signature_seen c.in_ok-signature.signature) c.signature_of.new.names) c.in_ok-signature.ensures.it c.new-body.result.locals
    (counted_seen c.new-body.result) c.new-body.ensures.locals c.new-body.ensures.counted
    (counting (map stmt_of c.in_ok-stmts.stmts.items) (counted_seen c.resolve_body.new.body)) c.in_ok-signature.signature.params
    c.kind_of-kind.result c.in_ok-stmts.ensures c.in_ok-signature.ensures.params c.kind_of-kind.ensures
