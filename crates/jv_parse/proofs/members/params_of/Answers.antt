use Rattle.std.proofs.Common.{◌≡◌, ◌∷◌, [], refl, sym, ◌∙◌}
use Rattle.std.proofs.lemmas.Result.{err_from_is_err_and}
use Rattle.mg_read.proofs.Loop.{Left-more, Left-done}
use Rattle.jv_tree.specs.declared.token.Sign.TheVariants as signs
use Rattle.jv_grammar.specs.Base.{is_sign}
use Rattle.jv_grammar.specs.Files.{next_param_at, params_at}
use Rattle.jv_grammar.proofs.Members.{next_param_shorter}
use Rattle.jv_parse.proofs.ExprTurns.{Left-fails}
use Rattle.jv_parse.proofs.FileTurns.{params_start, params_fail, next_param_is}
use Rattle.jv_parse.proofs.members.params_of.Goals as goal

pub returns-in_err-first : goal.returns-in_err-first
returns-in_err-first c =
    let p = err_from_is_err_and c.from_residual.result c.from_residual.ensures.1 in
    rw (p.1, p.2) (params_fail c.in_err-first.field-0.0 c.args.tokens.now c.in_err-first.ensures)

pub more-init : goal.more-init
more-init c =
    let e : c.push.new.self.items ≡ c.in_ok-first.first ∷ [] = rw (c.in_ok-push.ensures.ok, c.new-params.ensures) refl in
    rw e (params_start c.args.tokens.now c.in_ok-first.first c.in_ok-first.rest.now c.in_ok-first.ensures)

pub returns-in_err-param : goal.returns-in_err-param
returns-in_err-param c =
    let p = err_from_is_err_and c.from_residual-in_err-param.result c.from_residual-in_err-param.ensures.1 in
    rw (p.1, p.2)
    (Left-fails (is_sign signs.Comma) next_param_at c.in_err-param.field-0.0 c.more.params.items c.more.rest.now
    (params_at c.args.tokens.now)
    (sym c.in-Some.ensures.comes)
    (rw (next_param_is c.in-Some.field-0-0 c.more.rest.now c.in-Some.next.now (sym c.in-Some.ensures.it)) c.in_err-param.ensures)
    c.more.invariant)

pub more-smaller : goal.more-smaller
more-smaller c = next_param_shorter c.more.rest.now (c.in_ok-param.param, c.in_ok-param.after.now)
    (next_param_is c.in-Some.field-0-0 c.more.rest.now c.in-Some.next.now (sym c.in-Some.ensures.it) ∙ c.in_ok-param.ensures)

pub more-preserved : goal.more-preserved
more-preserved c =
    let read = next_param_is c.in-Some.field-0-0 c.more.rest.now c.in-Some.next.now (sym c.in-Some.ensures.it) ∙ c.in_ok-param.ensures in
    let shorter = next_param_shorter c.more.rest.now (c.in_ok-param.param, c.in_ok-param.after.now) read in
    rw c.in_ok-push-2.ensures.ok
    (Left-more (is_sign signs.Comma) next_param_at c.more.params.items c.more.rest.now c.in_ok-param.param c.in_ok-param.after.now
    (params_at c.args.tokens.now)
    (sym c.in-Some.ensures.comes) read shorter c.more.invariant)

pub returns : goal.returns
returns c =
    Left-done (is_sign signs.Comma) next_param_at c.more.params.items c.more.rest.now (params_at c.args.tokens.now)
    (sym c.in_default.ensures.comes) c.more.invariant
