use Rattle.std.proofs.Common.{refl}
use Rattle.lsp_spans.proofs.laws.rows_hold.Goals as goal

pub returns : goal.returns
returns c = record {
  word = refl;
  sign = refl;
  line_end = refl;
  text_end = refl;
  two = refl;
  four = refl;
  call = refl;
  field = refl;
  broken = refl;
  behind = refl;
  apart = refl;
  lines = refl;
  other = refl;
  blanks = refl;
  dot = refl;
  dots = refl;
  later = refl;
  none = refl;
}
