use Rattle.std.proofs.Common.{◌≡◌, ◌<◌, length, sym, subst, arith, false-eqb, eqb-true}
use Rattle.std.proofs.lemmas.Result.{err_from_is_err_and}
use Rattle.mg_page.specs.Pieces.{IsText}
use Rattle.mg_page.proofs.Asked.{AreRead, same_error, none_told, all_read, one_read, one_text, some_text, piece_shortens}
use Rattle.mg_page.proofs.asking.words_in.Goals as goal

pub returns-in_err-word-clause-form : goal.returns-in_err-word-clause-form
returns-in_err-word-clause-form c =
    let p = err_from_is_err_and c.from_residual.result c.from_residual.ensures.1 in
    let long : 0 < length c.loop-rest.rest.now = omega (arith, false-eqb _ 0 c.loop-rest-test.ensures) in
    rw (p.1, p.2) (λ e. none_told IsText c.args.bytes.now c.loop-rest.rest.now c.loop-rest.words.items c.loop-rest.invariant long
    (c.in_err-word.ensures.form (same_error _ _ e)))

pub loop-rest-smaller : goal.loop-rest-smaller
loop-rest-smaller c = piece_shortens c.loop-rest.rest.now c.in_ok-word.word c.in_ok-word.behind.now c.in_ok-word.ensures.ok.piece

pub loop-rest-preserved : goal.loop-rest-preserved
loop-rest-preserved c =
    subst (AreRead IsText c.args.bytes.now c.in_ok-word.behind.now) (sym c.in_ok-push.ensures.ok)
    (one_read IsText one_text some_text c.args.bytes.now c.loop-rest.rest.now c.in_ok-word.behind.now c.loop-rest.words.items
    c.in_ok-word.word c.loop-rest.invariant c.in_ok-word.ensures.ok)

pub returns-clause-ok : goal.returns-clause-ok
returns-clause-ok c =
    let empty : length c.loop-rest.rest.now ≡ 0 = eqb-true _ 0 (sym c.loop-rest-test.ensures) in
    all_read IsText c.args.bytes.now c.loop-rest.rest.now c.loop-rest.words.items c.loop-rest.invariant empty
