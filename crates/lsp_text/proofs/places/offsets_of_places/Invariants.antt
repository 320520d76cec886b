use Rattle.std.proofs.Common.{take}
use Rattle.lsp_text.specs.Places.{AreOffsetsOf}
use Rattle.lsp_text.specs.inner.Spots.{IsSpot}
use Rattle.lsp_text.proofs.places.offsets_of_places.Given as goal

abbrev pub invariant-loop-place : goal.invariant-loop-place
invariant-loop-place l =
    record {
      spot : IsSpot l.text l.spot;
      so_far : AreOffsetsOf l.text (take l.place-index l.places) l.offsets.items;
    }
