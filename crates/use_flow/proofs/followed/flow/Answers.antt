use Rattle.std.proofs.Common.{sym, ap, ◌∙◌, slice_get}
use Rattle.std.specs.Prelude.{option_map}
use Rattle.std.proofs.lemmas.Result.{IfOk-weaker}
use Rattle.jv_core.specs.View.{method_of}
use Rattle.use_flow.specs.View.{log_of}
use Rattle.use_flow.proofs.Flowing.{flow_is}
use Rattle.use_flow.proofs.followed.flow.Goals as goal

pub returns-clause-flows : goal.returns-clause-flows
returns-clause-flows c =
    IfOk-weaker c.whole.result _ _ (λ f e.
    flow_is c.args.core.now c.args.tables.now c.args.context (method_of c.in-Some.method.now) (log_of f)
    c.requires
    (ap (option_map (λ m. method_of m.now)) (sym c.in-Some.is) ∙ c.method_at.ensures.method ∙ ap (slice_get c.args.core.now.methods)
    c.method_in.ensures) e) c.whole.ensures
