use Rattle.std.proofs.Common.{◌≡◌, ◌++◌, map, Some, take}
use Rattle.lsp_folder.specs.Noted.{noted_in}
use Rattle.lsp_server.specs.Telling.{telling, cleared}
use Rattle.lsp_server.specs.inner.Left.{left_by}
use Rattle.lsp_server.proofs.judging.put_unnamed.Given as goal

abbrev pub invariant-loop-name : goal.invariant-loop-name
invariant-loop-name l = map telling l.told.items
    ≡ map telling l.initial.told.items ++ map (λ t. Some t) (map cleared (left_by (noted_in l.names) l.document (take l.name-index l.shown)))
