use Rattle.std.proofs.Common.{◌≡◌, take}
use Rattle.lsp_folder.specs.Noted.{among, noted_in}
use Rattle.lsp_folder.proofs.program.noted_names.Given as goal

abbrev pub invariant-loop-name : goal.invariant-loop-name
invariant-loop-name l = noted_in l.noted ≡ among (take l.name-index l.names)
