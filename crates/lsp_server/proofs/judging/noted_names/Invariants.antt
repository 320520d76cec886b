use Rattle.std.proofs.Common.{◌≡◌, take}
use Rattle.lsp_folder.specs.Noted.{noted_in}
use Rattle.lsp_server.specs.Showing.{is_among}
use Rattle.lsp_server.proofs.judging.noted_names.Given as goal

abbrev pub invariant-loop-name : goal.invariant-loop-name
invariant-loop-name l = noted_in l.noted ≡ is_among (take l.name-index l.names)
