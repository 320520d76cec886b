use Rattle.std.proofs.Common.{arith}
use Rattle.std.specs.Prelude.{◌/◌}
use Rattle.mg_sets.proofs.NextLaws.{below, word_first, word_rest, word_whole}
use Rattle.mg_sets.proofs.words.next_bit.Goals as goal

pub overflow_add-result : goal.overflow_add-result
overflow_add-result c =
    let next = word_first c.args.words.now c.args.width c.args.from c.requires (c.type_inv.words (c.args.from / 64)).fits
    (omega (arith, c.if-rest-ne0.true)) in
    record { fits = below _ c.args.width _ next.within c.ranges.width.fits }

pub returns-then-rest-ne0 : goal.returns-then-rest-ne0
returns-then-rest-ne0 c = word_first c.args.words.now c.args.width c.args.from c.requires (c.type_inv.words (c.args.from / 64)).fits
    (omega (arith, c.if-rest-ne0.true))

pub loop-k-init : goal.loop-k-init
loop-k-init c = word_rest c.args.words.now c.args.width c.args.from c.requires (omega (arith, c.if-rest-ne0.false))

pub returns-then-word-ne0 : goal.returns-then-word-ne0
returns-then-word-ne0 c = word_whole c.args.words.now c.args.width c.args.from c.requires c.loop-k.k (c.type_inv.words c.loop-k.k).fits
    (omega (arith, c.if-word-ne0.true)) (omega arith) c.loop-k.invariant
