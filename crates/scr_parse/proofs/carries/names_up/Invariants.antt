use Rattle.std.proofs.Common.{◌≡◌, ◌++◌, length}
use Rattle.scr_tree.specs.Tok.{toks}
use Rattle.scr_parse.specs.inner.Reading.{names_up}
use Rattle.scr_parse.proofs.carries.names_up.Given as goal

abbrev pub invariant-names : goal.invariant-names
invariant-names l = l.names.items ++ names_up (toks l.rest) ≡ names_up (toks l.fn.tokens)

abbrev pub decreases-names : goal.decreases-names
decreases-names l = length l.rest
