use Rattle.std.proofs.Common.{◌≡◌, ◌∷◌, length, ap, sym, arith}
use Rattle.mg_read.specs.inner.Fronts.{close_at}
use Rattle.mg_read.proofs.Close.{close_more}
use Rattle.mg_read.proofs.front.close_of.Goals as goal

pub bytes-preserved : goal.bytes-preserved
bytes-preserved c =
    let split : c.bytes.rest.now ≡ c.in-Some.field-0-0.now ∷ c.in-Some.after.now = c.in-Some.ensures.cases.0 in
    record {
      so_far = close_more c.bytes.n c.in-Some.field-0-0.now c.bytes.rest.now c.in-Some.after.now (close_at c.args.bytes.now) split
          (sym c.if-is_close.ensures) c.bytes.invariant.so_far;
      in_range = omega (arith, ap length split, c.bytes.invariant.in_range);
    }
