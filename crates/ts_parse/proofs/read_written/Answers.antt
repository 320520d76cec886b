use Rattle.ts_parse.specs.Tok.{toks}
use Rattle.ts_parse.proofs.Whole.{read_found, read_only, read_none}
use Rattle.ts_parse.proofs.read_written.Goals as goal

pub returns-clause-found : goal.returns-clause-found
returns-clause-found c = read_found c.file_of.result (toks c.args.tokens.now) c.file_of.ensures

pub returns-clause-only : goal.returns-clause-only
returns-clause-only c = read_only c.file_of.result (toks c.args.tokens.now) c.file_of.ensures

pub returns-clause-none : goal.returns-clause-none
returns-clause-none c = read_none c.file_of.result (toks c.args.tokens.now) c.file_of.ensures
