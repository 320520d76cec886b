-- Numbers that are compared one after another: the first two that differ decide.
use Rattle.std.proofs.Common.{◌≡◌, ℕ, ◌<◌, ◌≤◌, Bool, true, false, cond, ◌⊎◌, refl, sym, ap, ◌∙◌, arith, ⊎_elim, inl, inr}
use Rattle.std.specs.Prelude.{◌==◌, nat_eq, nat_lt, if◌then◌else◌}
use Rattle.std.proofs.Common.{Ordering, Less, Equal, Greater}
use Rattle.std.specs.Ordering.{is_lt, nat_cmp, ordering_then}
use Rattle.std.proofs.lemmas.Bool.{eq-eqb, ne_eqb, ltb-false, le-ltb, cases_eq, cases_order}
use Rattle.std.proofs.lemmas.Bool.Decides.{nat_tests}

abbrev pub lex : (a b : ℕ) → Bool → Bool
lex a b v = if nat_eq a b then v else nat_lt a b

pub behind_or : (a b : ℕ) (v : Bool) → lex a b v ≡ false → (b < a) ⊎ ((a ≡ b) × (v ≡ false))
behind_or a b v h = ⊎_elim
    (λ e. inr (e, sym (ap (λ t. if t then v else nat_lt a b) (eq-eqb a b e)) ∙ h))
    (λ ne.
    let le : b ≤ a = ltb-false a b (sym (ap (λ t. if t then v else nat_lt a b) (ne_eqb a b ne)) ∙ h) in
    ⊎_elim (λ e. absurd (ne e)) (λ o. ⊎_elim (λ l. absurd (omega (arith, l, le))) inl o) (cases_order a b))
    (cases_eq a b)

pub not_lex : (a b : ℕ) (v : Bool) → (b < a) ⊎ ((a ≡ b) × (v ≡ false)) → lex a b v ≡ false
not_lex a b v o = ⊎_elim
    (λ l. ap (λ t. if t then v else nat_lt a b) (ne_eqb a b (λ e. omega (arith, l, e))) ∙ le-ltb a b (omega (arith, l)))
    (λ p. ap (λ t. if t then v else nat_lt a b) (eq-eqb a b p.0) ∙ p.1)
    o

-- A test by a number first, and then by another test.
module _ {X : Type 0} (n : X → ℕ) (R : X → X → Bool) where
  abbrev pub by_number : X → X → Bool
  by_number x y = lex (n x) (n y) (R x y)

  pub lex_self : ((x : X) → R x x ≡ false) → (x : X) → by_number x x ≡ false
  lex_self h x = not_lex (n x) (n x) (R x x) (inr (refl, h x))

  pub lex_later : ((x y z : X) → R y x ≡ false → R z y ≡ false → R z x ≡ false) → (x y z : X) → by_number y x ≡ false →
      by_number z y ≡ false → by_number z x ≡ false
  lex_later h x y z a b = not_lex (n z) (n x) (R z x) (both (behind_or (n y) (n x) (R y x) a) (behind_or (n z) (n y) (R z y) b))
    where
      both : (n x < n y) ⊎ ((n y ≡ n x) × (R y x ≡ false)) → (n y < n z) ⊎ ((n z ≡ n y) × (R z y ≡ false)) →
          (n x < n z) ⊎ ((n z ≡ n x) × (R z x ≡ false))
      both (inl l) (inl k) = inl (omega (arith, l, k))
      both (inl l) (inr k) = let e = k.0 in inl (omega (arith, l, e))
      both (inr l) (inl k) = let e = l.0 in inl (omega (arith, k, e))
      both (inr l) (inr k) = inr (k.0 ∙ l.0, h x y z l.1 k.1)

-- by a number alone
module _ {X : Type 0} (n : X → ℕ) where
  pub less_self : (x : X) → nat_lt (n x) (n x) ≡ false
  less_self x = le-ltb (n x) (n x) (omega arith)

  pub less_later : (x y z : X) → nat_lt (n y) (n x) ≡ false → nat_lt (n z) (n y) ≡ false → nat_lt (n z) (n x) ≡ false
  less_later x y z a b =
      let l : n x ≤ n y = ltb-false (n y) (n x) a in
      let k : n y ≤ n z = ltb-false (n z) (n y) b in
      le-ltb (n z) (n x) (omega (arith, l, k))

-- As the kit compares.

less_apart : (m n : ℕ) → nat_lt m n ≡ true → nat_eq m n ≡ true → ⊥
less_apart m n a b = grind (arith, nat_tests)

module _ (m n : ℕ) where
  -- two numbers by the first of two tests that tells them apart
  pub by_first : (o : Ordering) → is_lt (ordering_then (nat_cmp m n) o) ≡ (if nat_eq m n then is_lt o else nat_lt m n)
  by_first o = go (nat_lt m n) (nat_eq m n) refl refl
    where
      go : (a b : Bool) → nat_lt m n ≡ a → nat_eq m n ≡ b → is_lt (ordering_then (nat_cmp m n) o) ≡ (if nat_eq m n then is_lt o else nat_lt m n)
      go true true e f = absurd (less_apart m n e f)
      go true false e f =
          ap (λ x. is_lt (ordering_then (cond x Less (cond (m == n) Equal Greater)) o)) e ∙ sym e
          ∙ ap (λ x. if x then is_lt o else nat_lt m n) (sym f)
      go false true e f =
          ap (λ x. is_lt (ordering_then (cond x Less (cond (m == n) Equal Greater)) o)) e
          ∙ ap (λ x. is_lt (ordering_then (cond x Equal Greater) o)) f
          ∙ ap (λ x. if x then is_lt o else nat_lt m n) (sym f)
      go false false e f =
          ap (λ x. is_lt (ordering_then (cond x Less (cond (m == n) Equal Greater)) o)) e
          ∙ ap (λ x. is_lt (ordering_then (cond x Equal Greater) o)) f ∙ sym e
          ∙ ap (λ x. if x then is_lt o else nat_lt m n) (sym f)

  pub by_last : is_lt (nat_cmp m n) ≡ nat_lt m n
  by_last = go (nat_lt m n) (m == n) refl refl
    where
      go : (a b : Bool) → nat_lt m n ≡ a → (m == n) ≡ b → is_lt (nat_cmp m n) ≡ nat_lt m n
      go true b e f = ap (λ x. is_lt (cond x Less (cond (m == n) Equal Greater))) e ∙ sym e
      go false true e f =
          ap (λ x. is_lt (cond x Less (cond (m == n) Equal Greater))) e ∙ ap (λ x. is_lt (cond x Equal Greater)) f ∙ sym e
      go false false e f =
          ap (λ x. is_lt (cond x Less (cond (m == n) Equal Greater))) e ∙ ap (λ x. is_lt (cond x Equal Greater)) f ∙ sym e

pub grouped : (a b c : Ordering) → ordering_then (ordering_then a b) c ≡ ordering_then a (ordering_then b c)
grouped Less b c = refl
grouped Equal b c = refl
grouped Greater b c = refl
