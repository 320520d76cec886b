use Rattle.jv_parse.proofs.Whole.{parsed_refused, parsed_unsupported, parsed_found, parsed_only, parsed_syntax}
use Rattle.jv_parse.proofs.parse_file.Goals as goal

pub returns-clause-refused : goal.returns-clause-refused
returns-clause-refused c = parsed_refused c.parsed_of.result c.args.tokens.now c.parsed_of.ensures

pub returns-clause-unsupported : goal.returns-clause-unsupported
returns-clause-unsupported c = parsed_unsupported c.parsed_of.result c.args.tokens.now c.parsed_of.ensures

pub returns-clause-found : goal.returns-clause-found
returns-clause-found c = parsed_found c.parsed_of.result c.args.tokens.now c.parsed_of.ensures

pub returns-clause-only : goal.returns-clause-only
returns-clause-only c = parsed_only c.parsed_of.result c.args.tokens.now c.parsed_of.ensures

pub returns-clause-syntax : goal.returns-clause-syntax
returns-clause-syntax c = parsed_syntax c.parsed_of.result c.args.tokens.now c.parsed_of.ensures
