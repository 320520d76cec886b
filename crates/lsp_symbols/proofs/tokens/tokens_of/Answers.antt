use Rattle.std.proofs.Common.{arith}
use Rattle.lsp_symbols.specs.Tokens.{cut}
use Rattle.lsp_symbols.proofs.Scans.{large_none, uncut_none}
use Rattle.lsp_symbols.proofs.tokens.tokens_of.Goals as goal

pub returns-then-bytes-gt-MAX_BYTES : goal.returns-then-bytes-gt-MAX_BYTES
returns-then-bytes-gt-MAX_BYTES c = large_none _ _ c.new.ensures.items c.if-bytes-gt-MAX_BYTES.true

pub returns-in-Ok : goal.returns-in-Ok
returns-in-Ok c = cut (omega (arith, c.if-bytes-gt-MAX_BYTES.false)) c.in-Ok.ensures

pub returns-in-Err-BadByte : goal.returns-in-Err-BadByte
returns-in-Err-BadByte c = uncut_none _ _ _ c.new-in-Err-BadByte.ensures.items (omega (arith, c.if-bytes-gt-MAX_BYTES.false))
    (rw c.in-Err-BadByte.field-0-is at c.in-Err-BadByte.ensures)
