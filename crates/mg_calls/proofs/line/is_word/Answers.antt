use Rattle.std.proofs.Common.{arith}
use Rattle.std.proofs.lemmas.Grind.{common_steps}
use Rattle.std.proofs.Common.{◌≡◌, length, nat_eq, eqb-true, eq-eqb, sym, ◌∙◌}
use Rattle.mg_calls.proofs.LineLemmas.{word_is, filled_is}
use Rattle.mg_calls.proofs.line.is_word.Goals as goal

pub returns-then-not-is_empty : goal.returns-then-not-is_empty
returns-then-not-is_empty c =
    word_is c.args.bytes.now c.word_end.result (nat_eq c.word_end.result (length c.args.bytes.now)) c.word_end.ensures.value
    (filled_is c.args.bytes.now c.is_empty.result c.if-not-is_empty.true c.is_empty.ensures)
    (λ t. eqb-true c.word_end.result (length c.args.bytes.now) t, λ e. eq-eqb c.word_end.result (length c.args.bytes.now) e)

pub returns-else-not-is_empty : goal.returns-else-not-is_empty
returns-else-not-is_empty c = grind (arith, common_steps)
