use Rattle.mg_text.specs.Row.{Row}
use Rattle.mg_read.proofs.Cuts.{only_tokens, only_bad}
use Rattle.ts_parse.specs.declared.token.Token.{Token}
use Rattle.ts_parse.specs.Tok.{typestates, tok_said, toks}
use Rattle.ts_parse.proofs.Scans.{apart}
use Rattle.ts_parse.proofs.tokens.Goals as goal

pub returns-clause-only : goal.returns-clause-only
returns-clause-only c = only_tokens typestates apart tok_said (λ (v : Row Token). toks v.items) c.args.file c.scan_tokens.result
    c.args.bytes.now c.scan_tokens.ensures

pub returns-clause-fault : goal.returns-clause-fault
returns-clause-fault c = only_bad typestates apart tok_said (λ (v : Row Token). toks v.items) c.args.file c.scan_tokens.result
    c.args.bytes.now c.scan_tokens.ensures
