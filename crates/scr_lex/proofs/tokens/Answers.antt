use Rattle.mg_text.specs.Row.{Row}
use Rattle.mg_read.proofs.Cuts.{only_tokens, only_bad}
use Rattle.scr_tree.specs.declared.token.Token.{Token}
use Rattle.scr_tree.specs.Tok.{toks}
use Rattle.scr_lex.specs.Pieces.{scribble, tok_said}
use Rattle.scr_lex.proofs.Scans.{apart}
use Rattle.scr_lex.proofs.tokens.Goals as goal

pub returns-clause-only : goal.returns-clause-only
returns-clause-only c = only_tokens scribble apart tok_said (λ (v : Row Token). toks v.items) c.args.file c.scan_tokens.result
    c.args.bytes.now c.scan_tokens.ensures

pub returns-clause-fault : goal.returns-clause-fault
returns-clause-fault c = only_bad scribble apart tok_said (λ (v : Row Token). toks v.items) c.args.file c.scan_tokens.result
    c.args.bytes.now c.scan_tokens.ensures
