use Rattle.std.proofs.Common.{◌≡◌, map, take}
use Rattle.std.specs.Prelude.{filter}
use Rattle.lsp_defined.specs.Called.{is_called, stand}
use Rattle.lsp_defined.specs.inner.View.{act}
use Rattle.lsp_defined.proofs.called.places_among.Given as goal

abbrev pub invariant-loop-action : goal.invariant-loop-action
invariant-loop-action l = l.places.items ≡ map stand (filter (is_called l.call) (map act (take l.action-index l.actions)))
