use Rattle.std.proofs.Common.{refl}
use Rattle.lsp_sights.proofs.laws.rows_hold.Goals as goal

pub returns : goal.returns
returns c = record {
  add = refl;
  total = refl;
  bye = refl;
  bad_bye = refl;
  both = refl;
  add_said = refl;
  bad_said = refl;
  both_said = refl;
}
