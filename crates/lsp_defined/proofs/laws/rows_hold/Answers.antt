use Rattle.std.proofs.Common.{refl}
use Rattle.std.specs.Fmt.{digits}
use Rattle.lsp_defined.proofs.laws.rows_hold.Goals as goal

pub returns : goal.returns
unfolding digits
returns c = record {
  received = refl;
  chosen = refl;
  both = refl;
  none = refl;
  messages = refl;
  methods = refl;
  total = refl;
  look = refl;
  in_two_states = refl;
  of_one_state = refl;
}
