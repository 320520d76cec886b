use Rattle.std.proofs.Common.{◌≡◌, ◌<◌, length, sym, subst, arith, false-eqb, eqb-true}
use Rattle.std.proofs.lemmas.Result.{err_from_is_err_and}
use Rattle.mg_page.specs.Pieces.{IsFile}
use Rattle.mg_page.proofs.Asked.{AreRead, same_error, none_told, all_read, one_read, one_file, some_file, file_shortens}
use Rattle.mg_page.proofs.asking.files_in.Goals as goal

pub returns-in_err-file-clause-form : goal.returns-in_err-file-clause-form
returns-in_err-file-clause-form c =
    let p = err_from_is_err_and c.from_residual.result c.from_residual.ensures.1 in
    let long : 0 < length c.loop-rest.rest.now = omega (arith, false-eqb _ 0 c.loop-rest-test.ensures) in
    rw (p.1, p.2) (λ e. none_told IsFile c.args.bytes.now c.loop-rest.rest.now c.loop-rest.files.items c.loop-rest.invariant long
    (c.in_err-file.ensures.form (same_error _ _ e)))

pub loop-rest-smaller : goal.loop-rest-smaller
loop-rest-smaller c = file_shortens c.loop-rest.rest.now c.in_ok-file.file c.in_ok-file.behind.now c.in_ok-file.ensures.ok

pub loop-rest-preserved : goal.loop-rest-preserved
loop-rest-preserved c =
    subst (AreRead IsFile c.args.bytes.now c.in_ok-file.behind.now) (sym c.in_ok-push.ensures.ok)
    (one_read IsFile one_file some_file c.args.bytes.now c.loop-rest.rest.now c.in_ok-file.behind.now c.loop-rest.files.items
    c.in_ok-file.file c.loop-rest.invariant c.in_ok-file.ensures.ok)

pub returns-clause-ok : goal.returns-clause-ok
returns-clause-ok c =
    let empty : length c.loop-rest.rest.now ≡ 0 = eqb-true _ 0 (sym c.loop-rest-test.ensures) in
    all_read IsFile c.args.bytes.now c.loop-rest.rest.now c.loop-rest.files.items c.loop-rest.invariant empty
