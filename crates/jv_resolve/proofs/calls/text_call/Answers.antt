use Rattle.std.proofs.Common.{sym, ap, ◌∙◌}
use Rattle.std.proofs.lemmas.Result.{err_from_is_err_and}
use Rattle.std.specs.Prelude.{map}
use Rattle.jv_core.specs.View.{expr_of}
use Rattle.jv_resolve_law.specs.Expressions.{only, text_call}
use Rattle.jv_resolve.specs.inner.Seen.{resolved_seen}
use Rattle.jv_resolve.proofs.Chains.{after, fails_then, gives_as}
use Rattle.jv_resolve.proofs.calls.text_call.Goals as goal

pub returns-in_err-arg : goal.returns-in_err-arg
returns-in_err-arg c =
    let p = err_from_is_err_and c.from_residual.result c.from_residual.ensures.1 in
    rw (p.1, p.2) (fails_then c.in_err-arg.field-0.0 (only (map expr_of c.args.args.items))
    (λ a. text_call c.args.place (expr_of c.args.text.value) c.args.name.now a) c.in_err-arg.ensures)

pub returns : goal.returns
returns c =
    gives_as resolved_seen c.text_method.result _ _
    (after (only (map expr_of c.args.args.items)) (expr_of c.in_ok-arg.arg) (λ a. text_call c.args.place (expr_of c.args.text.value)
    c.args.name.now a) c.in_ok-arg.ensures
    ∙ ap (λ b. text_call c.args.place (expr_of c.args.text.value) c.args.name.now (expr_of b)) (sym c.in_ok-kept.ensures))
    c.text_method.ensures
