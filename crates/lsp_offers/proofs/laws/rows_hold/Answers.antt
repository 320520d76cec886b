use Rattle.std.proofs.Common.{refl}
use Rattle.lsp_offers.proofs.laws.rows_hold.Goals as goal

pub returns : goal.returns
returns c = record {
  dot = refl;
  word = refl;
  field = refl;
  name = refl;
  number = refl;
  bare = refl;
  behind = refl;
  whole = refl;
  nested = refl;
  stands = refl;
  condition = refl;
  kept = refl;
  signed = refl;
  called = refl;
  plain = refl;
  tried = refl;
  named = refl;
  one = refl;
  both = refl;
  null = refl;
  moved = refl;
  ended = refl;
  nowhere = refl;
}
