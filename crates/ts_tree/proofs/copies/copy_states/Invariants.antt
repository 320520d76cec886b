use Rattle.std.proofs.Common.{◌≡◌, map, take}
use Rattle.ts_tree.specs.View.{state_of}
use Rattle.ts_tree.proofs.copies.copy_states.Given as goal

abbrev pub invariant-loop-state : goal.invariant-loop-state
invariant-loop-state l = map state_of l.copies.items ≡ map state_of (take l.state-index l.states)
