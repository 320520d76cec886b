-- The step of a search among arrows, and how what is laid out is read.
use Rattle.std.proofs.Common.{◌≡◌, ℕ, ◌+◌, ◌<◌, ◌≤◌, List, length, get_or, drop, map, sym, ap, ◌∙◌, Bool, if◌then◌else◌}
use Rattle.std.proofs.Common.{Some, None}
use Rattle.std.proofs.lemmas.List.{at_drop_more, at_drop_all, length-reverse, length-map}
use Rattle.std.proofs.lemmas.Grind.{common_steps}
use Rattle.scr_trace.specs.declared.arrow.Arrow.{Arrow}
use Rattle.scr_trace.specs.declared.arrow.Exits.{Exits}
use Rattle.scr_trace.specs.inner.Search.{first_led}
use Rattle.scr_trace.specs.inner.View.{cell_of, cells_of}

pub led-drop : (test : Arrow → Bool) (xs : List Arrow) (i : ℕ) (a : Arrow) → i < length xs → a ≡ get_or xs i a → first_led test (drop i xs)
    ≡ (if test a then Some a.to else first_led test (drop (i + 1) xs))
led-drop test xs i a h e = at_drop_more (first_led test) xs i a h ∙
    ap (λ (x : Arrow). if test x then Some x.to else first_led test (drop (i + 1) xs)) (sym e)

pub led-past : (test : Arrow → Bool) (xs : List Arrow) (i : ℕ) → length xs ≤ i → first_led test (drop i xs) ≡ None
led-past test xs i h = at_drop_all (first_led test) xs i h

pub ruleset steps = (common_steps, led-drop, led-past)

pub ruleset look_steps = (common_steps, led-drop, led-past)

pub ruleset reads = common_steps

pub cells-count : (exits : List Exits) → length (cells_of exits) ≡ length exits
cells-count exits = length-reverse (map cell_of exits) ∙ length-map exits cell_of

pub ruleset lengths = (common_steps, cells-count)
