use Rattle.std.proofs.Common.{◌≡◌, ◌++◌, take}
use Rattle.lsp_server.specs.Showing.{others}
use Rattle.lsp_server.proofs.showing.put_others.Given as goal

abbrev pub invariant-loop-name : goal.invariant-loop-name
invariant-loop-name l = l.names.items ≡ l.initial.names.items ++ others l.document (take l.name-index l.shown)
