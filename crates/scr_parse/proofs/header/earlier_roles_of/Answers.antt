use Rattle.std.proofs.Common.{sym, ◌∙◌, arith}
use Rattle.std.proofs.lemmas.Result.{err_from_is_err_and}
use Rattle.scr_tree.specs.Tok.{toks}
use Rattle.mg_read.proofs.Loop.{Left-init, Left-more, Left-done}
use Rattle.mg_read.specs.Reader.{all_of}
use Rattle.scr_parse.specs.inner.Reading.{is_other_role, earlier_role_at}
use Rattle.scr_parse.proofs.Heads.{earlier_role_shorter}
use Rattle.scr_parse.proofs.Steps.{length_toks}
use Rattle.scr_parse.proofs.Turns.{Left-refused}
use Rattle.scr_parse.proofs.header.earlier_roles_of.Goals as goal

pub others-init : goal.others-init
others-init c = rw c.new-roles.ensures (Left-init is_other_role earlier_role_at (toks c.args.tokens.now))

pub returns-in_err-other : goal.returns-in_err-other
returns-in_err-other c =
    let p = err_from_is_err_and c.from_residual.result c.from_residual.ensures.1 in
    let goes = sym c.is_other_role.ensures ∙ c.others-test.true in
    rw (p.1, p.2) (Left-refused (is_other_role) (earlier_role_at) c.in_err-other.field-0.0 c.others.roles.items (toks c.others.rest.now)
    (all_of is_other_role earlier_role_at (toks c.args.tokens.now)) goes c.in_err-other.ensures c.others.invariant)

pub others-smaller : goal.others-smaller
others-smaller c =
    let h = earlier_role_shorter (toks c.others.rest.now) c.in_ok-other.other (toks c.in_ok-other.after.now) c.in_ok-other.ensures in
    omega (arith, h, length_toks c.others.rest.now, length_toks c.in_ok-other.after.now)

pub others-preserved : goal.others-preserved
others-preserved c =
    let s = c.in_ok-other.other in
    let goes = sym c.is_other_role.ensures ∙ c.others-test.true in
    let less = earlier_role_shorter (toks c.others.rest.now) s (toks c.in_ok-other.after.now) c.in_ok-other.ensures in
    rw c.in_ok-push.ensures.ok (Left-more (is_other_role) (earlier_role_at) c.others.roles.items (toks c.others.rest.now) s
    (toks c.in_ok-other.after.now) (all_of is_other_role earlier_role_at (toks c.args.tokens.now))
    goes c.in_ok-other.ensures less c.others.invariant)

pub returns : goal.returns
returns c = Left-done (is_other_role) (earlier_role_at) c.others.roles.items (toks c.others.rest.now)
    (all_of is_other_role earlier_role_at (toks c.args.tokens.now)) (sym c.is_other_role.ensures ∙ c.others-test.false) c.others.invariant
