use Rattle.std.proofs.Common.{arith}
use Rattle.std.proofs.lemmas.List.{map-append}
use Rattle.std.proofs.lemmas.Result.{err_from_is_err_and}
use Rattle.mg_read.proofs.Loop.{Left-init, Left-more, Left-done}
use Rattle.mg_read.proofs.Turns.{Left-refused}
use Rattle.ts_parse.specs.Tok.{toks}
use Rattle.ts_parse.proofs.Files.{state_shorter}
use Rattle.ts_parse.proofs.Steps.{length_toks, not_closed_goes, not_closed_stops}
use Rattle.ts_parse.proofs.states.states_of.Goals as goal

pub others-init : goal.others-init
others-init c = rw c.new-states.ensures (Left-init _ _ _)

pub returns-in_err-other : goal.returns-in_err-other
returns-in_err-other c =
    let p = err_from_is_err_and c.from_residual.result c.from_residual.ensures.1 in
    let goes = not_closed_goes _ (toks c.others.rest.now) c.is_mark.ensures c.others-test.true in
    rw (p.1, p.2) (Left-refused _ _ _ _ _ _ goes c.in_err-other.ensures c.others.invariant)

pub others-smaller : goal.others-smaller
others-smaller c = omega (arith, state_shorter _ _ _ c.in_ok-other.ensures, length_toks)

pub others-preserved : goal.others-preserved
others-preserved c =
    let goes = not_closed_goes _ (toks c.others.rest.now) c.is_mark.ensures c.others-test.true in
    let less = state_shorter _ _ _ c.in_ok-other.ensures in
    rw (c.in_ok-push.ensures.ok, map-append) (Left-more _ _ _ _ _ _ _ goes c.in_ok-other.ensures less c.others.invariant)

pub returns : goal.returns
returns c =
    Left-done _ _ _ _ _ (not_closed_stops _ (toks c.others.rest.now) c.is_mark.ensures c.others-test.false) c.others.invariant
