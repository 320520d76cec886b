use Rattle.std.proofs.Common.{arith}
use Rattle.std.proofs.lemmas.Result.{err_from_is_err_and}
use Rattle.jv_tree.proofs.ViewLaws.{views}
use Rattle.jv_grammar.specs.Exprs.{new_with}
use Rattle.jv_parse.proofs.ExprTurns.{new_unnamed}
use Rattle.jv_parse.proofs.exprs.new_of.Goals as goal

pub returns-in_err-name-clause-read : goal.returns-in_err-name-clause-read
returns-in_err-name-clause-read c =
    let p = err_from_is_err_and c.from_residual.result c.from_residual.ensures.1 in
    rw (p.1, p.2) (new_unnamed c.in_err-name.field-0.0 c.args.room c.args.place c.args.tokens.now c.in_err-name.ensures)

pub leaf-requires : goal.leaf-requires
unfolding new_with
leaf-requires c = grind (arith, views)

pub returns-clause-read : goal.returns-clause-read
unfolding new_with
returns-clause-read c = grind (arith, views)

pub returns-then-room-eq0-clause-read : goal.returns-then-room-eq0-clause-read
unfolding new_with
returns-then-room-eq0-clause-read c = grind (arith, views)
