use Rattle.std.proofs.Common.{length, refl}
use Rattle.ts_refine.specs.inner.Marking.{bit_number}
use Rattle.ts_refine.proofs.Noting.{noted-none}
use Rattle.ts_refine.proofs.relation.note_all.Goals as goal

pub loop-pair-init : goal.loop-pair-init
loop-pair-init c = record {
  wide = refl;
  noted = noted-none (bit_number (length c.clear.new.words) c.args.a c.args.b) c.clear.new.words (length c.args.words.now) c.clear.ensures;
}
