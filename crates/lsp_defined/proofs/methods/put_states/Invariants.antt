use Rattle.std.proofs.Common.{◌≡◌, ◌++◌, map, take}
use Rattle.std.specs.List.{flat_map}
use Rattle.ts_parse.specs.Written.{wstate_of}
use Rattle.lsp_defined.specs.Spots.{state_spots}
use Rattle.lsp_defined.proofs.methods.put_states.Given as goal

abbrev pub invariant-loop-state : goal.invariant-loop-state
invariant-loop-state l = l.spots.items ≡ l.initial.spots.items ++ flat_map state_spots (map wstate_of (take l.state-index l.states))
