use Rattle.std.proofs.Common.{◌≡◌, map, take}
use Rattle.lsp_notes.specs.Homes.{place_in}
use Rattle.lsp_notes.proofs.notes.places_of.Given as goal

abbrev pub invariant-loop-refusal : goal.invariant-loop-refusal
invariant-loop-refusal l = l.places.items ≡ map (place_in l.count) (take l.refusal-index l.refusals)
