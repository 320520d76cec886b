use Rattle.std.proofs.Common.{refl}
use Rattle.percent_encoding.proofs.OnLiterals.{percent_encoding_on_literals}
use Rattle.lsp_folder.proofs.laws.rows_hold.Goals as goal

pub returns : goal.returns
unfolding percent_encoding_on_literals
returns c = record {
  folder = refl;
  bare = refl;
  protocol = refl;
  typestate = refl;
  java = refl;
  short = refl;
  other = refl;
  beside = refl;
  within = refl;
  above = refl;
  lock = refl;
  hidden = refl;
  dots = refl;
  escaped = refl;
  another = refl;
  path = refl;
  machine = refl;
  slash = refl;
  no_file = refl;
  one_folder = refl;
  two_folders = refl;
}
