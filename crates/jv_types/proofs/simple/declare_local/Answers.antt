use Rattle.std.proofs.Common.{◌≡◌, ◌∷◌, ◌∙◌}
use Rattle.jv_tree.specs.View.{stmt_of}
use Rattle.jv_scope.specs.Named.{under}
use Rattle.jv_types.specs.inner.Scopes.{scope_seen}
use Rattle.jv_types.specs.inner.Stating.{Extends, written_seen}
use Rattle.jv_types.proofs.StmtSteps.{written_new}
use Rattle.jv_types.proofs.LocalSteps.{not_named}
use Rattle.jv_types.proofs.ParamSteps.{declared_extends, on_ok}
use Rattle.jv_types.proofs.simple.declare_local.Goals as goal

pub declare-requires : goal.declare-requires
declare-requires c =
    not_named c.args.locals.now c.in-Some.local.name.now
    (written_new (scope_seen c.args.scope.now c.args.locals.now) (stmt_of c.args.stmt.now) (written_seen c.in-Some.local)
    c.in-Some.ensures c.requires)

pub returns-in-Some-clause-locals : goal.returns-in-Some-clause-locals
returns-in-Some-clause-locals c =
    let d = under c.in-Some.local.name.now c.meant.result in
    on_ok (c.declare.new.self ≡ d ∷ c.args.locals.now) (Extends c.args.locals.now c.declare.new.self) c.declare.result
    (λ e. declared_extends c.args.locals.now c.declare.new.self d e) c.declare.ensures
