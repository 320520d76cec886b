use Rattle.lsp_frames.proofs.Digits.{Left}
use Rattle.lsp_frames.proofs.lines.number_in.Given as goal

abbrev pub invariant-loop-digit : goal.invariant-loop-digit
invariant-loop-digit l = Left l.number l.digit-index l.digits l.limit
