use Rattle.std.proofs.Common.{◌≡◌, ◌++◌, take, option_map}
use Rattle.mg_top.specs.Writing.{clients_written}
use Rattle.mg_top.proofs.client.add_clients.Given as goal

abbrev pub invariant-loop-file : goal.invariant-loop-file
invariant-loop-file l = l.actions.items ≡ l.initial.actions.items ++ clients_written (option_map (λ f. f.now) l.folder)
    (take l.file-index l.files)
