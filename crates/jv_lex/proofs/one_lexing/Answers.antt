use Rattle.jv_lex.proofs.Cuts.{one_outcome}
use Rattle.jv_lex.proofs.one_lexing.Goals as goal

pub returns : goal.returns
returns c file bytes r s = one_outcome file bytes
