use Rattle.std.proofs.Common.{◌≡◌, ◌++◌, map, take}
use Rattle.stm_client.specs.Client.{counter_param}
use Rattle.stm_client.proofs.files.add_counter_params.Given as goal

abbrev pub invariant-loop-name : goal.invariant-loop-name
invariant-loop-name l = l.params.items ≡ l.initial.params.items ++ map (counter_param l.place) (take l.name-index l.names)
