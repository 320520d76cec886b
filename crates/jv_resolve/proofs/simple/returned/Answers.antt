use Rattle.std.proofs.Common.{◌∙◌}
use Rattle.std.specs.Prelude.{option_map}
use Rattle.jv_tree.specs.View.{expr_of}
use Rattle.jv_core.specs.Tree as Core
use Rattle.jv_core.specs.View.{stmt_of, expr_of as core_expr}
use Rattle.jv_core.proofs.ViewLaws.{stmt-Return}
use Rattle.jv_resolve_law.specs.Statements.{given_back}
use Rattle.jv_resolve.specs.inner.Seen.{tables_seen, standing_seen}
use Rattle.jv_resolve.specs.inner.Counted.{counted_seen}
use Rattle.jv_resolve.proofs.StmtSteps.{one_made}
use Rattle.jv_resolve.proofs.simple.returned.Goals as goal

pub returns : goal.returns
returns c =
    one_made (given_back (tables_seen c.args.scope.now.table.now) (standing_seen c.args.scope.now) c.args.body.now.locals
    (option_map expr_of c.args.value.now)) (option_map core_expr c.in_ok-value.value) (λ v. Core.Return c.args.place v)
    (stmt_of c.stmt_at.result) (counted_seen c.args.body.now) c.in_ok-value.ensures (c.stmt_at.ensures ∙ stmt-Return c.in_ok-value.value
    c.args.place)
