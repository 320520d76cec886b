-- The lines of elements, by tests on their places.
use Rattle.std.proofs.Common.{◌≡◌, ℕ, zero, suc, ◌-◌, ◌<◌, ◌≤◌, [], refl, ap, arith}
use Rattle.std.proofs.lemmas.Option.{slice_get-map}
use Rattle.std.proofs.lemmas.List.{append-nil}
use Rattle.ts_tree.specs.Typestate.{Typestate}
use Rattle.use_rules.specs.Keys.{at_end}
use Rattle.lsp_sights.specs.Texts.{line_of_state, member_line}

pub member_low : (t : Typestate) (e : ℕ) → e < 3 → member_line t e ≡ []
member_low t zero h = refl
member_low t (suc zero) h = refl
member_low t (suc (suc zero)) h = refl
member_low t (suc (suc (suc q))) h = absurd (omega (arith, h))

pub member_high : (t : Typestate) (e : ℕ) → 3 ≤ e → member_line t e ≡ line_of_state t (e - 3)
member_high t zero h = absurd (omega (arith, h))
member_high t (suc zero) h = absurd (omega (arith, h))
member_high t (suc (suc zero)) h = absurd (omega (arith, h))
member_high t (suc (suc (suc q))) h = let s : q ≡ suc (suc (suc q)) - 3 = omega arith in ap (line_of_state t) s

-- without a typestate no element has a line
pub none_said : (e : ℕ) → member_line at_end e ≡ []
none_said zero = refl
none_said (suc zero) = refl
none_said (suc (suc zero)) = refl
none_said (suc (suc (suc q))) = refl

pub ruleset numbered = (slice_get-map, append-nil)

pub ruleset members = (member_low, member_high, none_said, append-nil)
