use Rattle.ts_read.proofs.Composed.{syntax_told}
use Rattle.ts_read.proofs.reading.written_in.Goals as goal

pub returns-in-Err-Syntax : goal.returns-in-Err-Syntax
returns-in-Err-Syntax c =
    syntax_told c.args.file c.args.bytes.now c.in_ok-tokens.tokens.items c.as_slice.result.now c.in-Err-Syntax.field-0 c.in-Err-Syntax.place
    c.place_or_end.result c.requires
    c.in_ok-tokens.ensures c.as_slice.ensures.items c.in-Err-Syntax.field-0-is c.in-Err-Syntax.ensures.none
