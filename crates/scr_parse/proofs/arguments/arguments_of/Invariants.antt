use Rattle.std.proofs.Common.{◌≡◌, ◌++◌, length, map}
use Rattle.scr_tree.specs.Tok.{toks}
use Rattle.scr_tree.specs.Written.{arguments_of}
use Rattle.scr_parse.specs.inner.Reading.{arguments_in}
use Rattle.scr_parse.proofs.arguments.arguments_of.Given as goal

abbrev pub invariant-tokens : goal.invariant-tokens
invariant-tokens l = map arguments_of l.found.items ++ arguments_in (toks l.rest) ≡ arguments_in (toks l.fn.tokens)

abbrev pub decreases-tokens : goal.decreases-tokens
decreases-tokens l = length l.rest
