-- The worked rows, by computing.
use Rattle.std.proofs.Common.{refl}
use Rattle.std.specs.Fmt.{digits}
use Rattle.serde_json.proofs.OnLiterals.{serde_json_on_literals}
use Rattle.lsp_says.specs.examples.Rows.{Rows}

pub rows : Rows
unfolding serde_json_on_literals digits
rows = record {
  capabilities = refl;
  nothing = refl;
  no_json = refl;
  early = refl;
  diagnostic = refl;
  cleared = refl;
  hint = refl;
  some_states = refl;
  symbol = refl;
  diagram = refl;
}
