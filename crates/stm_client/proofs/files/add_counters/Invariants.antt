use Rattle.std.proofs.Common.{◌≡◌, ◌++◌, map, take}
use Rattle.jv_tree.specs.View.{stmt_of}
use Rattle.stm_client.specs.Client.{new_counter}
use Rattle.stm_client.proofs.files.add_counters.Given as goal

abbrev pub invariant-loop-name : goal.invariant-loop-name
invariant-loop-name l = map stmt_of l.body.items ≡ map stmt_of l.initial.body.items ++ map (new_counter l.place) (take l.name-index l.names)
