use Rattle.std.proofs.Common.{length}
use Rattle.std.specs.Prelude.{string_bytes}
use Rattle.cls_layout.proofs.Modified.{Heard}
use Rattle.cls_layout.proofs.letters.spelled_text.Given as goal

abbrev pub invariant-letters : goal.invariant-letters
invariant-letters l = Heard (string_bytes l.text) l.rest l.bytes

abbrev pub decreases-letters : goal.decreases-letters
decreases-letters l = length l.rest
