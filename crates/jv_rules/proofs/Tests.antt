-- Tests that decide facts.
use Rattle.std.proofs.Common.{◌≡◌, ◌≢◌, ◌⊎◌, inl, inr, ⊎_elim, List, [], ◌∷◌, Option, Some, None, Bool, true, false, not, ◌||◌, Contains}
use Rattle.std.proofs.Common.{Decides, refl, sym, subst, ◌∙◌, true≢false, arith}
use Rattle.std.specs.List.{list_any}
use Rattle.std.specs.Option.{is_some}
use Rattle.std.proofs.lemmas.Bool.Decides.{Decides-or}
use Rattle.std.proofs.lemmas.List.Elements.{Contains-push, Contains-push_cases, Contains-append_left, Contains-append_right}
use Rattle.std.proofs.lemmas.List.Elements.{Contains-append_cases}

pub holds : {P : Type 0} → P → Decides true P
holds p = (λ e. p, λ q. refl)

pub fails : {P : Type 0} → (P → ⊥) → Decides false P
fails n = (λ e. absurd (true≢false (sym e)), λ p. absurd (n p))

-- the same, of an equal fact
pub decides_as : {P Q : Type 0} (b : Bool) → Decides b P → (P → Q) → (Q → P) → Decides b Q
decides_as b d to from = (λ e. to (d.0 e), λ q. d.1 (from q))

-- what a test that fails denies
pub refuted : {P : Type 0} (b : Bool) → Decides b P → b ≡ false → P → ⊥
refuted b d e p = true≢false (sym (d.1 p) ∙ e)

-- nothing stands in no list
pub nothing_in : {X : Type 0} (x : X) → Contains [] x → ⊥
nothing_in x h = omega (arith, h.1)

-- what stands in a list is its first item, or stands in the rest
pub in_cases : {X : Type 0} (xs : List X) (y x : X) → Contains (y ∷ xs) x → (y ≡ x) ⊎ Contains xs x
in_cases xs y x h =
    ⊎_elim (λ one. ⊎_elim (λ none. absurd (nothing_in x none)) inl (Contains-push_cases [] y x one)) inr
    (Contains-append_cases (y ∷ []) xs x h)

pub in_first : {X : Type 0} (xs : List X) (x : X) → Contains (x ∷ xs) x
in_first xs x = Contains-append_left (x ∷ []) xs x (Contains-push [] x)

pub in_later : {X : Type 0} (xs : List X) (y x : X) → Contains xs x → Contains (y ∷ xs) x
in_later xs y x h = Contains-append_right (y ∷ []) xs x h

-- whether a list has an item that a test finds
pub any_decides : {X : Type 0} (p : X → Bool) (x : X) → ((y : X) → Decides (p y) (y ≡ x)) → (xs : List X) →
    Decides (list_any p xs) (Contains xs x)
any_decides p x each [] = fails (nothing_in x)
any_decides p x each (y ∷ xs) =
    decides_as (p y || list_any p xs) (Decides-or (p y) (list_any p xs) (each y) (any_decides p x each xs))
    (λ q. ⊎_elim (λ e. subst (λ z. Contains (z ∷ xs) x) (sym e) (in_first xs x)) (λ h. in_later xs y x h) q) (in_cases xs y x)

-- whether there is a value
pub some-Decides : {X : Type 0} (o : Option X) → Decides (is_some o) (o ≢ None)
some-Decides None = fails (λ n. n refl)
some-Decides (Some x) = holds (λ e. let no : ⊥ = cc in no)

pub lacks-Decides : {X : Type 0} (o : Option X) → Decides (not (is_some o)) (o ≡ None)
lacks-Decides None = holds refl
lacks-Decides (Some x) = fails (λ e. let no : ⊥ = cc in no)
