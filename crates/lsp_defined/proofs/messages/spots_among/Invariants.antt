use Rattle.std.proofs.Common.{◌≡◌, map, take}
use Rattle.std.specs.List.{flat_map}
use Rattle.lsp_defined.specs.Spots.{action_spots}
use Rattle.lsp_defined.specs.inner.View.{act}
use Rattle.lsp_defined.proofs.messages.spots_among.Given as goal

abbrev pub invariant-loop-action : goal.invariant-loop-action
invariant-loop-action l = l.spots.items ≡ flat_map action_spots (map act (take l.action-index l.actions))
