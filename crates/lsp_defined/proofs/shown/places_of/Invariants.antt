use Rattle.std.proofs.Common.{◌≡◌, map, take}
use Rattle.lsp_defined.specs.Spots.{place_of}
use Rattle.lsp_defined.proofs.shown.places_of.Given as goal

abbrev pub invariant-loop-spot : goal.invariant-loop-spot
invariant-loop-spot l = l.places.items ≡ map place_of (take l.spot-index l.spots)
