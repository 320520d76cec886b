use Rattle.std.proofs.Common.{◌≡◌, ◌∙◌, ap, arith}
use Rattle.std.specs.List.{range_with_len}
use Rattle.mg_words.proofs.LawLemmas.{range_pushed}
use Rattle.mg_words.proofs.asked.numbers_below.Goals as goal

pub returns : goal.returns
returns c = let end : c.loop-number.number ≡ c.args.n = omega arith in c.loop-number.invariant ∙ ap (range_with_len 0) end

pub loop-number-preserved : goal.loop-number-preserved
loop-number-preserved c = range_pushed c.loop-number.numbers.items _ c.loop-number.number c.loop-number.invariant c.in_ok-push.ensures.items
