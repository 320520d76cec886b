use Rattle.std.proofs.Common.{length}
use Rattle.scr_tree.specs.Tok.{toks}
use Rattle.scr_read.proofs.Sought.{Left}
use Rattle.scr_read.specs.Unsupported.{unsupported_word}
use Rattle.scr_read.proofs.words.first_unsupported.Given as goal

abbrev pub invariant-tokens : goal.invariant-tokens
invariant-tokens l = Left (unsupported_word l.kind) (toks l.rest) (toks l.fn.tokens)

abbrev pub decreases-tokens : goal.decreases-tokens
decreases-tokens l = length l.rest
