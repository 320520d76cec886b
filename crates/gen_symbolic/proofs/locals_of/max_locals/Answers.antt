use Rattle.std.proofs.Common.{map, ap, ◌∙◌}
use Rattle.std.proofs.lemmas.Result.{IfOk-weaker}
use Rattle.jv_core.specs.View.{stmt_of, stmts_of}
use Rattle.gen_rules.specs.Frames.{locals_of_all}
use Rattle.gen_expressions.specs.Held.{method_in}
use Rattle.gen_symbolic.proofs.Framing.{frame_is}
use Rattle.gen_symbolic.proofs.locals_of.max_locals.Goals as goal

pub returns : goal.returns
returns c =
    IfOk-weaker c.locals_of_all.result _ _ (λ n e.
    e ∙ ap (λ xs. locals_of_all c.in_ok-taken.taken (stmts_of (map stmt_of xs))) c.as_slice.ensures.items
    ∙ frame_is (method_in c.args.coder.now) c.in_ok-taken.taken c.in_ok-taken.ensures) c.locals_of_all.ensures
