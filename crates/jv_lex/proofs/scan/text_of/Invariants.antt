use Rattle.std.proofs.Common.{◌≡◌, ◌++◌, length}
use Rattle.std.specs.Prelude.{map}
use Rattle.jv_lex.specs.Written.{meant}
use Rattle.jv_lex.specs.inner.Front.{characters, meaning}
use Rattle.jv_lex.proofs.scan.text_of.Given as goal

abbrev pub invariant-bytes : goal.invariant-bytes
invariant-bytes l = l.read.items ++ map meant (characters l.after_backslash l.rest) ≡ meaning l.body

abbrev pub decreases-bytes : goal.decreases-bytes
decreases-bytes l = length l.rest
