use Rattle.std.proofs.Common.{◌≡◌, ℕ, ◌<◌, List, length, drop, refl, ap, ◌∙◌, arith}
use Rattle.lsp_text.proofs.OffsetLaws.{spot_next, spot_stops, spot_ends}
use Rattle.lsp_text.proofs.places.spot_from.Goals as goal

pub returns-then-not-is_reached-clause-offset : goal.returns-then-not-is_reached-clause-offset
returns-then-not-is_reached-clause-offset c =
    let rest : c.split_at.result.1.now ≡ drop c.args.known.offset c.args.text.now =
    c.split_at.ensures.back ∙ ap (λ (zs : List ℕ). drop c.args.known.offset zs) c.as_bytes.ensures.value in
    let less : c.loop-byte.byte-index < length c.split_at.result.1.now = omega arith in
    spot_stops c.args.text.now c.split_at.result.1.now c.args.known.offset c.loop-byte.byte-index c.loop-byte.offset _ rest less
    c.loop-byte.invariant.offset refl c.args.place c.loop-byte.line c.loop-byte.column _ _ c.loop-byte.invariant.so_far
    c.behind_byte-next_line.ensures.place c.loop-byte.invariant.reached c.if-not-is_reached.ensures

pub loop-byte-preserved : goal.loop-byte-preserved
loop-byte-preserved c =
    let rest : c.split_at.result.1.now ≡ drop c.args.known.offset c.args.text.now =
    c.split_at.ensures.back ∙ ap (λ (zs : List ℕ). drop c.args.known.offset zs) c.as_bytes.ensures.value in
    let less : c.loop-byte.byte-index < length c.split_at.result.1.now = omega arith in
    let long : length c.split_at.result.1.now ≡ length (drop c.args.known.offset c.args.text.now) = ap length rest in
    record {
      offset = omega arith;
      within = omega (arith, c.split_at.ensures.back_len, ap length c.as_bytes.ensures.value);
      so_far = spot_next c.args.text.now c.split_at.result.1.now c.args.known.offset c.loop-byte.byte-index c.loop-byte.offset _ rest less
          c.loop-byte.invariant.offset refl c.loop-byte.line c.loop-byte.column _ _ c.loop-byte.invariant.so_far
          c.behind_byte-next_line.ensures.place;
      reached = λ some. c.if-not-is_reached.ensures;
      lines = omega arith;
      columns = omega arith;
    }

pub returns-clause-offset : goal.returns-clause-offset
returns-clause-offset c =
    let rest : c.split_at.result.1.now ≡ drop c.args.known.offset c.args.text.now =
    c.split_at.ensures.back ∙ ap (λ (zs : List ℕ). drop c.args.known.offset zs) c.as_bytes.ensures.value in
    spot_ends c.args.text.now c.split_at.result.1.now c.args.place c.args.known.offset c.loop-byte.byte-index c.loop-byte.offset
    c.loop-byte.line c.loop-byte.column rest c.requires.spot.within c.loop-byte-test.false c.loop-byte.invariant.offset
    c.loop-byte.invariant.within c.loop-byte.invariant.so_far c.loop-byte.invariant.reached
