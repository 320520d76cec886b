use Rattle.std.proofs.Common.{◌≡◌, ◌++◌, length, map}
use Rattle.scr_tree.specs.Tok.{toks}
use Rattle.scr_tree.specs.Written.{carries_of}
use Rattle.scr_parse.specs.inner.Reading.{carries_from, carries_in}
use Rattle.scr_parse.proofs.carries.carries_of.Given as goal

abbrev pub invariant-messages : goal.invariant-messages
invariant-messages l = map carries_of l.found.items ++ carries_from l.behind_do (toks l.rest) ≡ carries_in (toks l.fn.tokens)

abbrev pub decreases-messages : goal.decreases-messages
decreases-messages l = length l.rest
