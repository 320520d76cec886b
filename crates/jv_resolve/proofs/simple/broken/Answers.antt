use Rattle.std.proofs.Common.{sym, ap, ◌∙◌}
use Rattle.jv_core.specs.Tree as Core
use Rattle.jv_core.specs.View.{stmt_of}
use Rattle.jv_core.proofs.ViewLaws.{stmt-Break}
use Rattle.jv_resolve_law.specs.Statements.{left_by}
use Rattle.jv_resolve.specs.inner.Seen.{around_seen}
use Rattle.jv_resolve.specs.inner.Counted.{counted_seen}
use Rattle.jv_resolve.proofs.StmtSteps.{one_made}
use Rattle.jv_resolve.proofs.simple.broken.Goals as goal

pub returns : goal.returns
returns c =
    one_made (left_by (around_seen c.args.around.now) c.args.label.now) c.in_ok-number.number (λ n. Core.Break c.args.place n)
    (stmt_of c.stmt_at.result) (counted_seen c.args.body.now) (ap (left_by (around_seen c.args.around.now)) (sym c.label_of.ensures) ∙
    c.in_ok-number.ensures)
    (c.stmt_at.ensures ∙ stmt-Break c.in_ok-number.number c.args.place)
