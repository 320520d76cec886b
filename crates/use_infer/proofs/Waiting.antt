-- How many times contexts are still followed, as tables grow and contexts wait.
use Rattle.std.proofs.Common.{◌≡◌, ℕ, zero, suc, ◌+◌, ◌<◌, ◌≤◌, Bool, true, false, List, [], ◌∷◌, length, Some, None, slice_get, refl, sym}
use Rattle.std.proofs.Common.{ap, subst, ◌∙◌, arith, inl, inr, ⊎_elim, length-set}
use Rattle.std.specs.Prelude.{slice_set}
use Rattle.std.proofs.lemmas.Bool.{false≢true, cases_eq, cases_lt}
use Rattle.std.proofs.lemmas.List.{get_or-set_other, get_or-set_same, get_or_past}
use Rattle.mg_sets.specs.Sets.{has, missing}
use Rattle.jv_core.specs.Tree.{Program}
use Rattle.use_rules.specs.declared.key.Context.{Context}
use Rattle.use_rules.specs.declared.key.TableKey.{TableKey}
use Rattle.use_rules.specs.Keys.{Tables}
use Rattle.use_rules.specs.Reads.{reads}
use Rattle.use_rules.specs.inner.Order.{Mem}
use Rattle.use_infer.specs.Bound.{width_at}
use Rattle.use_infer.specs.inner.Widths.{widths, widths_read}
use Rattle.use_infer.specs.inner.Waiting.{lack, one_if, potential}

some_is : {A : Type 0} (x y : A) → Some x ≡ Some y → x ≡ y
some_is x y h = cc

none_some : {A : Type 0} (x : A) → None ≡ Some x → ⊥
none_some x h = cc

-- What tables lack.

pub lack_less : (t u : Tables) (ks : List TableKey) → ((key : TableKey) → Mem key ks → missing (u key) ≤ missing (t key)) →
    lack u ks ≤ lack t ks
lack_less t u [] h = omega arith
lack_less t u (k ∷ ks) h =
    let a : missing (u k) ≤ missing (t k) = h k (inl refl) in
    let b : lack u ks ≤ lack t ks = lack_less t u ks (λ key m. h key (inr m)) in omega (arith, a, b)

pub lack_falls : (t u : Tables) (ks : List TableKey) (k : TableKey) → Mem k ks → missing (u k) < missing (t k) →
    ((key : TableKey) → Mem key ks → missing (u key) ≤ missing (t key)) → lack u ks < lack t ks
lack_falls t u [] k m f h = absurd m
lack_falls t u (x ∷ ks) k m f h = ⊎_elim
    (λ (e : k ≡ x).
    let a : missing (u x) < missing (t x) = subst (λ y. missing (u y) < missing (t y)) e f in
    let b : lack u ks ≤ lack t ks = lack_less t u ks (λ key i. h key (inr i)) in omega (arith, a, b))
    (λ i.
    let a : missing (u x) ≤ missing (t x) = h x (inl refl) in
    let b : lack u ks < lack t ks = lack_falls t u ks k i f (λ key j. h key (inr j)) in omega (arith, a, b))
    m

-- Flags.

pub one_less : (a b : Bool) → (a ≡ true → b ≡ true) → one_if a ≤ one_if b
one_less false b h = omega arith
one_less true b h = let e : b ≡ true = h refl in subst (λ x. 1 ≤ one_if x) (sym e) (omega arith)

pub one_most : (a : Bool) → one_if a ≤ 1
one_most true = omega arith
one_most false = omega arith

pub cleared_cases : (s : List Bool) (n j : ℕ) → has (slice_set s n false) j ≡ true → has s j ≡ true
cleared_cases s n j h = ⊎_elim (λ e. absurd (here e)) (λ ne. sym (get_or-set_other s n j false false ne) ∙ h) (cases_eq j n)
  where
    here : j ≡ n → ⊥
    here e = ⊎_elim
        (λ lt. false≢true (sym (get_or-set_same s n false false lt) ∙ subst (λ x. has (slice_set s n false) x ≡ true) e h))
        (λ past. false≢true (sym (get_or_past (slice_set s n false) j false
        (let w : length (slice_set s n false) ≡ length s = length-set s n false in omega (arith, w, past, e))) ∙ h))
        (cases_lt n (length s))

pub cleared : (s : List Bool) (n : ℕ) → has (slice_set s n false) n ≡ false
cleared s n = go (has (slice_set s n false) n) refl
  where
    go : (b : Bool) → has (slice_set s n false) n ≡ b → has (slice_set s n false) n ≡ false
    go false e = e
    go true e = ⊎_elim (λ lt. get_or-set_same s n false false lt) (λ past. get_or_past (slice_set s n false) n false
        (let w : length (slice_set s n false) ≡ length s = length-set s n false in omega (arith, w, past))) (cases_lt n (length s))

pub cleared_other : (s : List Bool) (n j : ℕ) → (j ≡ n → ⊥) → has (slice_set s n false) j ≡ has s j
cleared_other s n j ne = get_or-set_other s n j false false ne

module _ (p : Program) (reached : List (List Bool)) where
  abbrev cost : Tables → List Bool → ℕ → Context → ℕ
  cost t due n c = one_if (has due n) + lack t (reads p reached c)

  -- context by context
  pub potential_less : (t u : Tables) (due flags : List Bool) (i : ℕ) (cs : List Context) →
      ((j : ℕ) (c : Context) → slice_get cs j ≡ Some c → cost u flags (i + j) c ≤ cost t due (i + j) c) →
      potential p reached u flags i cs ≤ potential p reached t due i cs
  potential_less t u due flags i [] h = omega arith
  potential_less t u due flags i (c ∷ cs) h =
      let a : cost u flags i c ≤ cost t due i c = subst (λ n. cost u flags n c ≤ cost t due n c) (omega arith) (h 0 c refl) in
      let b : potential p reached u flags (suc i) cs ≤ potential p reached t due (suc i) cs =
      potential_less t u due flags (suc i) cs (λ j x e. subst (λ n. cost u flags n x ≤ cost t due n x) (omega arith) (h (suc j) x e)) in
      omega (arith, a, b)

  flags_less : (t : Tables) (due : List Bool) (n i : ℕ) (cs : List Context) → potential p reached t (slice_set due n false) i cs ≤ potential
      p reached t due i cs
  flags_less t due n i cs = potential_less t t due (slice_set due n false) i cs (λ j c e.
      let a : one_if (has (slice_set due n false) (i + j)) ≤ one_if (has due (i + j)) = one_less _ _ (cleared_cases due n (i + j)) in omega
      (arith, a))

  cleared_from : (t : Tables) (due : List Bool) (n i j : ℕ) (cs : List Context) (c : Context) → n ≡ i + j → slice_get cs j ≡ Some c →
      has due n ≡ true → potential p reached t (slice_set due n false) i cs + 1 ≤ potential p reached t due i cs
  cleared_from t due n i j [] c e at h = absurd (none_some c at)
  cleared_from t due n i zero (x ∷ cs) c e at h =
      let f : n ≡ i = omega (arith, e) in
      let a : one_if (has (slice_set due n false) i) ≡ 0 = subst (λ k. one_if (has (slice_set due n false) k) ≡ 0) f
      (ap one_if (cleared due n)) in
      let b : one_if (has due i) ≡ 1 = subst (λ k. one_if (has due k) ≡ 1) f (ap one_if h) in
      let d : potential p reached t (slice_set due n false) (suc i) cs ≤ potential p reached t due (suc i) cs =
      flags_less t due n (suc i) cs in
      omega (arith, a, b, d)
  cleared_from t due n i (suc j) (x ∷ cs) c e at h =
      let a : one_if (has (slice_set due n false) i) ≤ one_if (has due i) = one_less _ _ (cleared_cases due n i) in
      let d : potential p reached t (slice_set due n false) (suc i) cs + 1 ≤ potential p reached t due (suc i) cs =
      cleared_from t due n (suc i) j cs c (omega (arith, e)) at h in
      omega (arith, a, d)

  -- a context that waited waits no more
  pub potential_cleared : (t : Tables) (due : List Bool) (n : ℕ) (cs : List Context) (c : Context) → slice_get cs n ≡ Some c →
      has due n ≡ true → potential p reached t (slice_set due n false) 0 cs + 1 ≤ potential p reached t due 0 cs
  potential_cleared t due n cs c at h = cleared_from t due n 0 n cs c (omega arith) at h

  -- Where the work begins.

  lack_most : (t : Tables) (ks : List TableKey) → ((key : TableKey) → missing (t key) ≤ width_at p reached key) →
      lack t ks ≤ widths p reached ks
  lack_most t [] h = omega arith
  lack_most t (k ∷ ks) h =
      let a : missing (t k) ≤ width_at p reached k = h k in
      let b : lack t ks ≤ widths p reached ks = lack_most t ks h in omega (arith, a, b)

  pub potential_most : (t : Tables) (due : List Bool) (i : ℕ) (cs : List Context) →
      ((key : TableKey) → missing (t key) ≤ width_at p reached key) → potential p reached t due i cs ≤ length cs + widths_read p reached cs
  potential_most t due i [] h = omega arith
  potential_most t due i (c ∷ cs) h =
      let a : one_if (has due i) ≤ 1 = one_most (has due i) in
      let b : lack t (reads p reached c) ≤ widths p reached (reads p reached c) = lack_most t (reads p reached c) h in
      let d : potential p reached t due (suc i) cs ≤ length cs + widths_read p reached cs = potential_most t due (suc i) cs h in omega
      (arith, a, b, d)

pub missing_most : (s : List Bool) → missing s ≤ length s
missing_most [] = omega arith
missing_most (true ∷ s) = let h : missing s ≤ length s = missing_most s in omega (arith, h)
missing_most (false ∷ s) = let h : missing s ≤ length s = missing_most s in omega (arith, h)
