use Rattle.std.specs.Prelude.{map}
use Rattle.jv_core.specs.Tree as Core
use Rattle.jv_core.specs.View.{expr_of, exprs_of, kind_of}
use Rattle.jv_core.specs.declared.tree.CoreExprKind.TheVariants as kinds
use Rattle.jv_core.proofs.ViewLaws.{kind-Protocol}
use Rattle.jv_resolve_law.specs.Tables.{type_meant}
use Rattle.jv_resolve.specs.inner.Seen.{tables_seen, resolved_seen}
use Rattle.jv_resolve.proofs.Chains.{made}
use Rattle.jv_resolve.proofs.calls.object_call.Goals as goal

pub returns : goal.returns
returns c =
    made (type_meant (tables_seen c.args.scope.now.table.now) c.args.callee.method.now.result) c.in_ok-result.result
    (Core.Protocol c.args.place c.args.receiver c.args.callee.number (exprs_of (map expr_of c.args.args.items)))
    (kind_of (kinds.Protocol c.args.receiver c.args.callee.number c.args.args) c.args.place) (resolved_seen c.typed.result)
    c.in_ok-result.ensures (kind-Protocol c.args.receiver c.args.callee.number c.args.args c.args.place) c.typed.ensures
