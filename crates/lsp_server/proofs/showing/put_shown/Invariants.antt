use Rattle.std.proofs.Common.{◌≡◌, ◌++◌, take}
use Rattle.std.specs.List.{flat_map}
use Rattle.lsp_server.specs.Showing.{shown_by}
use Rattle.lsp_server.proofs.showing.put_shown.Given as goal

abbrev pub invariant-loop-message : goal.invariant-loop-message
invariant-loop-message l = l.names.items ≡ l.initial.names.items ++ flat_map shown_by (take l.message-index l.told)
