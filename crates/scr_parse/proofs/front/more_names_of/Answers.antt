use Rattle.std.proofs.Common.{sym, ◌∙◌, arith}
use Rattle.std.proofs.lemmas.Result.{err_from_is_err_and}
use Rattle.scr_tree.specs.Tok.{toks}
use Rattle.mg_read.proofs.Loop.{Left-more, Left-done, with_front}
use Rattle.mg_read.specs.Reader.{all_of}
use Rattle.scr_parse.specs.inner.Reading.{is_at, other_name_at}
use Rattle.scr_parse.proofs.Names.{other_name_shorter}
use Rattle.scr_parse.proofs.Steps.{length_toks}
use Rattle.mg_read.proofs.Turns.{Left-front}
use Rattle.scr_parse.proofs.Turns.{Left-refused}
use Rattle.scr_parse.proofs.front.more_names_of.Goals as goal

pub others-init : goal.others-init
others-init c = Left-front (is_at c.args.mark) (other_name_at c.args.mark) c.args.names.items (toks c.args.tokens.now)

pub returns-in_err-other : goal.returns-in_err-other
returns-in_err-other c =
    let p = err_from_is_err_and c.from_residual.result c.from_residual.ensures.1 in
    let goes = sym c.is_mark.ensures ∙ c.others-test.true in
    rw (p.1, p.2) (Left-refused (is_at c.args.mark) (other_name_at c.args.mark) c.in_err-other.field-0.0 c.others.names.items
    (toks c.others.rest.now) (with_front c.args.names.items (all_of (is_at c.args.mark) (other_name_at c.args.mark)
    (toks c.args.tokens.now))) goes c.in_err-other.ensures c.others.invariant)

pub others-smaller : goal.others-smaller
others-smaller c =
    let h = (other_name_shorter c.args.mark) (toks c.others.rest.now) c.in_ok-other.other
    (toks c.in_ok-other.after.now) c.in_ok-other.ensures in
    omega (arith, h, length_toks c.others.rest.now, length_toks c.in_ok-other.after.now)

pub others-preserved : goal.others-preserved
others-preserved c =
    let s = c.in_ok-other.other in
    let goes = sym c.is_mark.ensures ∙ c.others-test.true in
    let less = (other_name_shorter c.args.mark) (toks c.others.rest.now) s (toks c.in_ok-other.after.now) c.in_ok-other.ensures in
    rw c.in_ok-push.ensures.ok (Left-more (is_at c.args.mark) (other_name_at c.args.mark) c.others.names.items (toks c.others.rest.now) s
    (toks c.in_ok-other.after.now) (with_front c.args.names.items (all_of (is_at c.args.mark) (other_name_at c.args.mark)
    (toks c.args.tokens.now)))
    goes c.in_ok-other.ensures less c.others.invariant)

pub returns : goal.returns
returns c = Left-done (is_at c.args.mark) (other_name_at c.args.mark) c.others.names.items (toks c.others.rest.now)
    (with_front c.args.names.items (all_of (is_at c.args.mark) (other_name_at c.args.mark) (toks c.args.tokens.now)))
    (sym c.is_mark.ensures ∙ c.others-test.false) c.others.invariant
