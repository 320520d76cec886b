use Rattle.std.proofs.Common.{◌≡◌, ◌++◌, take, option_map}
use Rattle.mg_top.specs.Writing.{roles_written}
use Rattle.mg_top.proofs.project.add_roles.Given as goal

abbrev pub invariant-loop-file : goal.invariant-loop-file
invariant-loop-file l = l.actions.items ≡ l.initial.actions.items ++ roles_written (option_map (λ f. f.now) l.folder)
    (take l.file-index l.files)
