use Rattle.std.proofs.Common.{refl}
use Rattle.lsp_core.proofs.laws.rows_hold.Goals as goal

pub returns : goal.returns
returns c = record {
  early = refl;
  early_save = refl;
  unread = refl;
  early_end = refl;
  begun = refl;
  without = refl;
  counts = refl;
  runs = refl;
  twice = refl;
  stays = refl;
  asked = refl;
  saved = refl;
  unknown = refl;
  bad = refl;
  cancelled = refl;
  reply = refl;
  ill = refl;
  killed = refl;
  stopped = refl;
  down = refl;
  late = refl;
  late_save = refl;
  clean = refl;
  silent = refl;
  still = refl;
  wanted = refl;
}
