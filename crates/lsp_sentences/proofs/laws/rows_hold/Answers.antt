use Rattle.std.proofs.Common.{refl}
use Rattle.lsp_sentences.proofs.laws.rows_hold.Goals as goal

pub returns : goal.returns
returns c = record {
  state = refl;
  finished = refl;
  left = refl;
  declared = refl;
  twice = refl;
  bare = refl;
  first = refl;
  escape = refl;
  none = refl;
}
