use Rattle.mg_read.proofs.Cuts.{same_tokens, tokens_or_bad, bad_once}
use Rattle.ts_parse.specs.Tok.{typestates, tok_said}
use Rattle.ts_parse.proofs.Scans.{apart}
use Rattle.ts_parse.proofs.one_cut.Goals as goal

pub returns-clause-same : goal.returns-clause-same
returns-clause-same c = same_tokens typestates apart tok_said

pub returns-clause-either : goal.returns-clause-either
returns-clause-either c = tokens_or_bad typestates apart tok_said

pub returns-clause-one_bad : goal.returns-clause-one_bad
returns-clause-one_bad c k j bytes = bad_once typestates apart bytes k j
