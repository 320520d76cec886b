use Rattle.std.proofs.lemmas.Result.{err_from_is_err_and}
use Rattle.mg_page.proofs.Asked.{same_error, name_refused, content_refused}
use Rattle.mg_page.proofs.asking.first_file.Goals as goal

pub returns-in_err-content-clause-form : goal.returns-in_err-content-clause-form
returns-in_err-content-clause-form c =
    let p = err_from_is_err_and c.from_residual-in_err-content.result c.from_residual-in_err-content.ensures.1 in
    rw (p.1, p.2) (λ e. content_refused c.args.bytes.now c.in_ok-name.name.now c.in_ok-name.middle.now c.in_ok-name.ensures.ok
    (c.in_err-content.ensures.form (same_error _ _ e)))

pub returns-in-Err-clause-form : goal.returns-in-Err-clause-form
returns-in-Err-clause-form c = λ e.
    name_refused c.args.bytes.now c.in_ok-name.name.now c.in_ok-name.middle.now c.in_ok-name.ensures.ok c.in-Err.ensures.cases.0
