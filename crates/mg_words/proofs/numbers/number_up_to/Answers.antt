use Rattle.std.proofs.Common.{arith}
use Rattle.mg_words.proofs.NumberLemmas.{none_up_to, other_up_to}
use Rattle.mg_words.proofs.numbers.number_up_to.Goals as goal

pub returns-in-None : goal.returns-in-None
returns-in-None c = none_up_to c.args.most c.args.word.now (omega arith) c.in-None.ensures

pub returns-then-number-eq0 : goal.returns-then-number-eq0
returns-then-number-eq0 c =
    other_up_to c.args.most c.args.word.now c.in-Some.number (omega arith) c.in-Some.ensures
    (λ low high. omega (arith, c.if-number-eq0.true))

pub returns-else-number-from : goal.returns-else-number-from
returns-else-number-from c =
    other_up_to c.args.most c.args.word.now c.in-Some.number (omega arith) c.in-Some.ensures
    (λ low high. omega (arith, c.if-number-from.false, c.from.ensures))
