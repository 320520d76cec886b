use Rattle.std.proofs.Common.{◌∙◌}
use Rattle.jv_tree.specs.View.{expr_of}
use Rattle.jv_core.specs.Tree as Core
use Rattle.jv_core.specs.View.{stmt_of}
use Rattle.jv_core.proofs.ViewLaws.{stmt-Print}
use Rattle.jv_resolve_law.specs.Expressions.{resolved, Resolved}
use Rattle.jv_resolve.specs.inner.Seen.{tables_seen, standing_seen, resolved_seen}
use Rattle.jv_resolve.specs.inner.Counted.{counted_seen}
use Rattle.jv_resolve.proofs.StmtSteps.{one_made}
use Rattle.jv_resolve.proofs.simple.printed.Goals as goal

pub returns : goal.returns
returns c =
    one_made (resolved (tables_seen c.args.scope.now.table.now) (standing_seen c.args.scope.now) c.args.body.now.locals
    (expr_of c.args.value.now)) (resolved_seen c.in_ok-value.value) (λ (v : Resolved). Core.Print c.args.place v.expr)
    (stmt_of c.stmt_at.result) (counted_seen c.args.body.now) c.in_ok-value.ensures (c.stmt_at.ensures ∙ stmt-Print c.in_ok-value.value.expr
    c.args.place)
