use Rattle.std.proofs.Common.{◌∙◌, length, sym}
use Rattle.ts_refine.proofs.Noting.{noted-more, noted-past}
use Rattle.ts_refine.proofs.relation.note.Goals as goal

pub returns-in-Some-clause-noted : goal.returns-in-Some-clause-noted
returns-in-Some-clause-noted c = λ pairs m.
    noted-more (length c.args.words.now) c.args.a c.args.b c.args.words.now c.set_bit.new.words pairs c.args.pair c.in-Some.n m
    (sym c.bit_number.ensures.value ∙ c.in-Some.is) c.in-Some.ensures.bound c.set_bit.ensures

pub returns-in-None-clause-noted : goal.returns-in-None-clause-noted
returns-in-None-clause-noted c = λ pairs m.
    noted-past (length c.args.words.now) c.args.a c.args.b c.args.words.now pairs c.args.pair m (sym c.bit_number.ensures.value ∙
    c.in-None.is)
