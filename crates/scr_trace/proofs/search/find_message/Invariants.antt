use Rattle.std.proofs.Common.{◌≡◌, drop}
use Rattle.scr_trace.specs.inner.Search.{first_led, is_said}
use Rattle.scr_trace.proofs.search.find_message.Given as goal

abbrev pub invariant-loop-arrow : goal.invariant-loop-arrow
invariant-loop-arrow l = first_led (is_said l.method) l.arrows ≡ first_led (is_said l.method) (drop l.arrow-index l.arrows)
