-- The trees of tests, one for each label.
use Rattle.std.proofs.Common.{◌≡◌, ℕ, ◌+◌, ◌<◌, ◌≤◌, get_or, drop, length, map, List, [], ◌∷◌, ◌++◌, sym, ap, ◌∙◌, append_assoc}
use Rattle.std.specs.Borrow.{Bor}
use Rattle.std.proofs.lemmas.List.{append-nil, at_drop_more, at_drop_all}
use Rattle.std.proofs.lemmas.Grind.{common_steps}
use Rattle.mg_text.specs.Call.{Name}
use Rattle.jv_tree.proofs.ViewLaws as laws
use Rattle.stm_api.specs.inner.View.{names_of}

pub names-step : (names : List (Bor Name)) (i : ℕ) (x : Bor Name) → i < length names → x ≡ get_or names i x →
    names_of (drop i names) ≡ x.now ∷ names_of (drop (i + 1) names)
names-step names i x within is = at_drop_more names_of names i x within ∙ ap (λ (y : Bor Name). y.now ∷ names_of (drop (i + 1) names))
    (sym is)

pub names-past : (names : List (Bor Name)) (i : ℕ) → length names ≤ i → names_of (drop i names) ≡ []
names-past names i h = at_drop_all names_of names i h

pub ruleset views = (common_steps, laws.views)

pub ruleset test_steps = (common_steps, names-step, names-past, append_assoc, append-nil)
