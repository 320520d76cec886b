use Rattle.mg_read.proofs.Cuts.{same_tokens, tokens_or_bad, bad_once}
use Rattle.scr_lex.specs.Pieces.{scribble, tok_said}
use Rattle.scr_lex.proofs.Scans.{apart}
use Rattle.scr_lex.proofs.one_cut.Goals as goal

pub returns-clause-same : goal.returns-clause-same
returns-clause-same c = same_tokens scribble apart tok_said

pub returns-clause-either : goal.returns-clause-either
returns-clause-either c = tokens_or_bad scribble apart tok_said

pub returns-clause-one_bad : goal.returns-clause-one_bad
returns-clause-one_bad c k j bytes = bad_once scribble apart bytes k j
