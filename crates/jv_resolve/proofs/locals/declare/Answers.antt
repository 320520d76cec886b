use Rattle.std.proofs.Common.{sym, ◌∙◌}
use Rattle.jv_resolve_law.specs.Expressions.{known_named}
use Rattle.jv_resolve.proofs.LocalSteps.{not_known}
use Rattle.jv_resolve.proofs.locals.declare.Goals as goal

pub declare-requires : goal.declare-requires
declare-requires c = not_known c.find.result (known_named c.args.locals.now c.args.name.now) c.find.ensures
    (sym c.is_some.ensures ∙ c.if-is_some.false)
