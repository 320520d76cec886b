use Rattle.std.proofs.Common.{◌≡◌, ℕ, drop}
use Rattle.std.specs.Fmt.{decimal}
use Rattle.scr_trace.specs.inner.Search.{first_led, is_looked}
use Rattle.scr_trace.proofs.search.find_look.Given as goal

abbrev pub invariant-loop-arrow : goal.invariant-loop-arrow
invariant-loop-arrow l = (n : ℕ) → l.digits ≡ decimal n → first_led (is_looked l.me n l.method l.label) l.arrows ≡ first_led
    (is_looked l.me n l.method l.label) (drop l.arrow-index l.arrows)
