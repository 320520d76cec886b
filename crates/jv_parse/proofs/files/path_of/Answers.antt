use Rattle.std.proofs.Common.{sym}
use Rattle.std.proofs.lemmas.Result.{err_from_is_err_and}
use Rattle.jv_grammar.specs.Files.{is_more_steps, next_step_at, path_at}
use Rattle.jv_grammar.proofs.Decls.{next_step_shorter}
use Rattle.jv_parse.proofs.Walks.{Walking-shorter, Walking-more, Walking-done}
use Rattle.jv_parse.proofs.FileTurns.{path_start, path_fails}
use Rattle.jv_parse.proofs.files.path_of.Goals as goal

pub returns-in_err-rest : goal.returns-in_err-rest
returns-in_err-rest c =
    let p = err_from_is_err_and c.from_residual.result c.from_residual.ensures.1 in
    rw (p.1, p.2) (path_fails c.in_err-rest.field-0.0 c.args.tokens.now c.in_err-rest.ensures)

pub steps-init : goal.steps-init
steps-init c = path_start c.args.tokens.now c.in_ok-rest.rest.now c.in_ok-rest.ensures

pub steps-smaller : goal.steps-smaller
steps-smaller c = Walking-shorter is_more_steps next_step_at c.steps.rest.now c.in-Some.after.now (next_step_shorter c.steps.rest.now)
    c.in-Some.ensures.it

pub steps-preserved : goal.steps-preserved
steps-preserved c =
    Walking-more is_more_steps next_step_at c.steps.rest.now c.in-Some.after.now (path_at c.args.tokens.now)
    (next_step_shorter c.steps.rest.now) (sym c.in-Some.ensures.comes) c.in-Some.ensures.it c.steps.invariant

pub returns : goal.returns
returns c = Walking-done is_more_steps next_step_at c.steps.rest.now (path_at c.args.tokens.now) (sym c.in_default.ensures.comes)
    c.steps.invariant
