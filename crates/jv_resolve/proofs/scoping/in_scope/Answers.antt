use Rattle.std.proofs.Common.{Some, sym, ap, ◌∙◌}
use Rattle.jv_core.specs.Tree as Core
use Rattle.jv_core.specs.View.{expr_of}
use Rattle.jv_resolve_law.specs.Tables.{◌>>=◌}
use Rattle.jv_resolve_law.specs.Statements.{declared}
use Rattle.jv_resolve.specs.inner.Counted.{counted_seen, itemed}
use Rattle.jv_scope.specs.Named.{under}
use Rattle.jv_resolve.proofs.Chains.{fails_then}
use Rattle.jv_resolve.proofs.scoping.in_scope.Goals as goal

pub returns-in-Ok : goal.returns-in-Ok
returns-in-Ok c =
    let d = c.args.declaration in
    ap (λ o. o >>= λ more. Some (itemed (Core.Local d.place d.local.slot (expr_of d.value)) more (counted_seen c.args.body.now)))
    c.in-Ok.ensures.ok
    ∙ ap (λ s. Some (itemed s c.declare.new.locals (counted_seen c.args.body.now))) (sym c.local_stmt.ensures)

pub returns-in-Err : goal.returns-in-Err
returns-in-Err c =
    let d = c.args.declaration in
    fails_then c.in-Err.end (declared (under c.args.name.now d.local) c.args.body.now.locals)
    (λ more. Some (itemed (Core.Local d.place d.local.slot (expr_of d.value)) more (counted_seen c.args.body.now)))
    c.in-Err.ensures.err
