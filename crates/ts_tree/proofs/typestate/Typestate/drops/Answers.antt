-- What is read is what the view says of the state.
use Rattle.std.proofs.Common.{arith}
use Rattle.std.proofs.lemmas.Grind.{common_steps}
use Rattle.std.proofs.Common.{sym}
use Rattle.ts_tree.proofs.Searches.{drops_by}
use Rattle.ts_tree.proofs.typestate.Typestate.drops.Goals as goal

pub returns : goal.returns
returns c = sym (drops_by c.args.self.now c.self.inside.name c.self.inside.states.items _ c.args.q _ c.self.view_is c.requires
    c.as_slice.ensures.items c.index-as_slice-q.is)

pub bounds-as_slice-q : goal.bounds-as_slice-q
bounds-as_slice-q c = grind (arith, common_steps)
