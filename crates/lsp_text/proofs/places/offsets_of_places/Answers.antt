use Rattle.std.proofs.Common.{ℕ, ◌+◌, ◌<◌, length, List, take, subst, sym, arith}
use Rattle.lsp_text.specs.Places.{AreOffsetsOf}
use Rattle.lsp_text.proofs.OffsetLaws.{offsets_more}
use Rattle.lsp_text.proofs.places.offsets_of_places.Goals as goal

pub loop-place-preserved : goal.loop-place-preserved
loop-place-preserved c =
    let less : c.loop-place.place-index < length c.args.places.now = omega arith in
    record {
      spot = c.spot_of-spot.ensures.spot;
      so_far =
          subst (λ (os : List ℕ). AreOffsetsOf c.args.text.now (take (c.loop-place.place-index + 1) c.args.places.now) os)
          (sym c.in_ok-push.ensures.items)
          (offsets_more c.args.text.now c.args.places.now c.loop-place.offsets.items c.loop-place.place-index c.spot_of-spot.result.offset _ less
          c.loop-place.invariant.so_far c.spot_of-spot.ensures.offset);
    }
