-- The worked rows, by computing.
use Rattle.std.proofs.Common.{refl}
use Rattle.serde_json.proofs.OnLiterals.{serde_json_on_literals}
use Rattle.lsp_json.specs.examples.Rows.{Rows}

pub rows : Rows
unfolding serde_json_on_literals
rows = record {
  no_json = refl;
  no_object = refl;
  shutdown = refl;
  not_known = refl;
  bad_id = refl;
  response = refl;
  hover = refl;
  no_position = refl;
  utf8 = refl;
  goes = refl;
  opens = refl;
  no_range = refl;
  null_range = refl;
  whole = refl;
  part = refl;
  diagram = refl;
  no_command = refl;
  text = refl;
  cut = refl;
}
