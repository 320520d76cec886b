use Rattle.std.proofs.Common.{sym, ap, ◌∙◌}
use Rattle.jv_core.specs.Tree as Core
use Rattle.jv_core.specs.View.{stmt_of}
use Rattle.jv_core.proofs.ViewLaws.{stmt-Continue}
use Rattle.jv_resolve_law.specs.Statements.{gone_on_by}
use Rattle.jv_resolve.specs.inner.Seen.{around_seen}
use Rattle.jv_resolve.specs.inner.Counted.{counted_seen}
use Rattle.jv_resolve.proofs.StmtSteps.{one_made}
use Rattle.jv_resolve.proofs.simple.continued.Goals as goal

pub returns : goal.returns
returns c =
    one_made (gone_on_by (around_seen c.args.around.now) c.args.label.now) c.in_ok-number.number (λ n. Core.Continue c.args.place n)
    (stmt_of c.stmt_at.result) (counted_seen c.args.body.now) (ap (gone_on_by (around_seen c.args.around.now)) (sym c.label_of.ensures) ∙
    c.in_ok-number.ensures)
    (c.stmt_at.ensures ∙ stmt-Continue c.in_ok-number.number c.args.place)
