use Rattle.scr_tree.specs.Tok.{toks}
use Rattle.scr_global_parse.proofs.Answered.{is_found, is_only, is_none}
use Rattle.scr_global_parse.proofs.parse.Goals as goal

pub returns-clause-found : goal.returns-clause-found
returns-clause-found c = is_found c.file_of.result (toks c.args.tokens.now) c.file_of.ensures

pub returns-clause-only : goal.returns-clause-only
returns-clause-only c = is_only c.file_of.result (toks c.args.tokens.now) c.file_of.ensures

pub returns-clause-none : goal.returns-clause-none
returns-clause-none c = is_none c.file_of.result (toks c.args.tokens.now) c.file_of.ensures
