use Rattle.mg_sets.proofs.NextLaws.{found_in}
use Rattle.mg_sets.proofs.set.StateSet.next_from.Goals as goal

pub returns : goal.returns
returns c = found_in c.next_bit.result c.self.inside.words.items c.as_slice.result.now c.self.inside.width c.args.from c.args.self.now
    c.as_slice.ensures.value c.self.view_is c.self.invariant c.next_bit.ensures
