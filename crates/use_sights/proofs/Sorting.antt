-- A list that is in order, with equals as another list has them, is one.
use Rattle.std.proofs.Common.{◌≡◌, ℕ, zero, suc, ◌+◌, ◌<◌, Bool, true, false, cond, not, ◌&&◌, ◌⊎◌, List, [], ◌∷◌, ◌++◌, length, refl, sym, ap}
use Rattle.std.proofs.Common.{◌∙◌, subst, arith, ⊎_elim, inl, inr, add-one}
use Rattle.std.specs.Prelude.{slice_index_or, filter}
use Rattle.std.specs.List.Sorted.{IsSortedBy, IsStableBy, ties}
use Rattle.use_rules.specs.inner.Order.{Mem}

nil_cons : {A : Type 0} (x : A) (xs : List A) → [] ≡ x ∷ xs → ⊥
nil_cons x xs e = cc

head_same : {A : Type 0} (x y : A) (xs ys : List A) → x ∷ xs ≡ y ∷ ys → x ≡ y
head_same x y xs ys e = cc

tail_same : {A : Type 0} (x y : A) (xs ys : List A) → x ∷ xs ≡ y ∷ ys → xs ≡ ys
tail_same x y xs ys e = cc

kept_mem : {A : Type 0} (b : Bool) (y x : A) (ys : List A) → Mem x (cond b (y ∷ ys) ys) → (x ≡ y) ⊎ Mem x ys
kept_mem true y x ys m = m
kept_mem false y x ys m = inr m

pub filter_mem : {A : Type 0} (f : A → Bool) (xs : List A) (x : A) → Mem x (filter f xs) → Mem x xs
filter_mem f [] x m = absurd m
filter_mem f (y ∷ xs) x m = ⊎_elim inl (λ r. inr (filter_mem f xs x r)) (kept_mem (f y) y x (filter f xs) m)

cut : {A : Type 0} (b : Bool) (y : A) (F G : List A) → cond b (y ∷ F) F ≡ cond b (y ∷ G) G → F ≡ G
cut true y F G e = tail_same y y F G e
cut false y F G e = e

both_not : (a b : Bool) → a ≡ false → b ≡ false → (not a && not b) ≡ true
both_not false false e f = refl
both_not false true e f = absurd (cc)
both_not true b e f = absurd (cc)

pub of_appended : {A : Type 0} (xs : List A) (e x : A) → Mem x (xs ++ e ∷ []) → Mem x xs ⊎ (x ≡ e)
of_appended [] e x m = ⊎_elim inr (λ r. absurd r) m
of_appended (y ∷ xs) e x m = ⊎_elim (λ i. inl (inl i)) (λ r. ⊎_elim (λ i. inl (inr i)) inr (of_appended xs e x r)) m

module _ {X : Type 0} (lt : X → X → Bool) (self : (x : X) → lt x x ≡ false)
    (later : (x y z : X) → lt y x ≡ false → lt z y ≡ false → lt z x ≡ false) where
  abbrev pub IsRising : List X → Type 0
  IsRising [] = Unit {0}
  IsRising (x ∷ xs) = ((y : X) → Mem y xs → lt y x ≡ false) × IsRising xs

  abbrev pub Steps : List X → Type 0
  Steps xs = (k : ℕ) (d : X) → suc k < length xs → lt (slice_index_or xs (suc k) d) (slice_index_or xs k d) ≡ false

  tail_steps : (x : X) (xs : List X) → Steps (x ∷ xs) → Steps xs
  tail_steps x xs h k d l = h (suc k) d (omega (arith, l))

  all_behind : (x : X) (xs : List X) → Steps (x ∷ xs) → (y : X) → Mem y xs → lt y x ≡ false
  all_behind x [] h y m = absurd m
  all_behind x (z ∷ zs) h y m =
      let first : lt z x ≡ false = h 0 x (omega arith) in
      ⊎_elim (λ e. subst (λ w. lt w x ≡ false) (sym e) first)
      (λ r. later x z y first (all_behind z zs (tail_steps x (z ∷ zs) h) y r)) m

  pub rising : (xs : List X) → Steps xs → IsRising xs
  rising [] h = tt
  rising (x ∷ xs) h = (all_behind x xs h, rising xs (tail_steps x xs h))

  pub steps_of : (xs : List X) → IsSortedBy lt xs → Steps xs
  steps_of xs h k d l =
      let same : k + 1 ≡ suc k = add-one k in
      subst (λ n. lt (slice_index_or xs n d) (slice_index_or xs k d) ≡ false) same
      (h k d (omega arith) (subst (λ n. n < length xs) (sym same) l))

  ties_self : (x : X) → ties lt x x ≡ true
  ties_self x = both_not (lt x x) (lt x x) (self x) (self x)

  kept : (x y : X) (ys : List X) → ties lt x y ≡ true → filter (ties lt x) (y ∷ ys) ≡ y ∷ filter (ties lt x) ys
  kept x y ys e = ap (λ b. cond b (y ∷ filter (ties lt x) ys) (filter (ties lt x) ys)) e

  there : (z : X) (ys zs : List X) → filter (ties lt z) ys ≡ filter (ties lt z) (z ∷ zs) → Mem z ys
  there z ys zs e = filter_mem (ties lt z) ys z (subst (Mem z) (sym (e ∙ kept z z zs (ties_self z))) (inl refl))

  not_before : (y z : X) (ys : List X) → ((w : X) → Mem w ys → lt w y ≡ false) → Mem z (y ∷ ys) → lt z y ≡ false
  not_before y z ys a m = ⊎_elim (λ e. subst (λ w. lt w y ≡ false) (sym e) (self y)) (a z) m

  rest : (x y z : X) (ys zs : List X) → z ≡ y → filter (ties lt x) (y ∷ ys) ≡ filter (ties lt x) (z ∷ zs) →
      filter (ties lt x) ys ≡ filter (ties lt x) zs
  rest x y z ys zs e h =
      cut (ties lt x y) y (filter (ties lt x) ys) (filter (ties lt x) zs)
      (h ∙ ap (λ w. filter (ties lt x) (w ∷ zs)) e)

  pub unique : (ys zs : List X) → IsRising ys → IsRising zs → ((x : X) → filter (ties lt x) ys ≡ filter (ties lt x) zs) → ys ≡ zs
  unique [] [] a b h = refl
  unique [] (z ∷ zs) a b h = absurd (nil_cons z (filter (ties lt z) zs) (h z ∙ kept z z zs (ties_self z)))
  unique (y ∷ ys) [] a b h = absurd (nil_cons y (filter (ties lt y) ys) (sym (h y) ∙ kept y y ys (ties_self y)))
  unique (y ∷ ys) (z ∷ zs) a b h =
      let zy : lt z y ≡ false = not_before y z ys a.0 (there z (y ∷ ys) zs (h z)) in
      let yz : lt y z ≡ false = not_before z y zs b.0 (there y (z ∷ zs) ys (sym (h y))) in
      let same : y ∷ filter (ties lt y) ys ≡ z ∷ filter (ties lt y) zs =
      sym (kept y y ys (ties_self y)) ∙ h y ∙ kept y z zs (both_not (lt y z) (lt z y) yz zy) in
      let e : y ≡ z = head_same y z _ _ same in
      ap (λ w. w ∷ ys) e ∙ ap (λ r. z ∷ r) (unique ys zs a.1 b.1 (λ x. rest x y z ys zs (sym e) (h x)))

  pub rising_more : (xs : List X) (e : X) → IsRising xs → ((y : X) → Mem y xs → lt e y ≡ false) → IsRising (xs ++ e ∷ [])
  rising_more [] e r h = ((λ y m. absurd m), tt)
  rising_more (x ∷ xs) e r h = (
    (λ y m. ⊎_elim (r.0 y) (λ i. subst (λ w. lt w x ≡ false) (sym i) (h x (inl refl))) (of_appended xs e y m)),
    rising_more xs e r.1 (λ y m. h y (inr m)),
  )

  rising_steps : (xs : List X) → IsRising xs → Steps xs
  rising_steps [] r k d l = absurd (omega (arith, l))
  rising_steps (x ∷ []) r k d l = absurd (omega (arith, l))
  rising_steps (x ∷ y ∷ ys) r zero d l = r.0 y (inl refl)
  rising_steps (x ∷ y ∷ ys) r (suc k) d l = rising_steps (y ∷ ys) r.1 k d (omega (arith, l))

  pub sorted_of : (xs : List X) → IsRising xs → IsSortedBy lt xs
  sorted_of xs r = λ k d low l.
      let same : k + 1 ≡ suc k = add-one k in
      subst (λ n. lt (slice_index_or xs n d) (slice_index_or xs k d) ≡ false) (sym same)
      (rising_steps xs r k d (subst (λ n. n < length xs) same l))

-- One test stands for another that answers the same.

filter_same : {X : Type 0} (f g : X → Bool) → ((x : X) → f x ≡ g x) → (xs : List X) → filter f xs ≡ filter g xs
filter_same f g h [] = refl
filter_same f g h (x ∷ xs) =
    ap (λ b. cond b (x ∷ filter f xs) (filter f xs)) (h x) ∙ ap (λ r. cond (g x) (x ∷ r) r) (filter_same f g h xs)

module _ {X : Type 0} (lt to : X → X → Bool) (same : (x y : X) → lt x y ≡ to x y) where
  ties_same : (x y : X) → ties lt x y ≡ ties to x y
  ties_same x y = ap (λ b. not b && not (lt y x)) (same x y) ∙ ap (λ b. not (to x y) && not b) (same y x)

  pub sorted_as : (xs : List X) → IsSortedBy lt xs → IsSortedBy to xs
  sorted_as xs h = λ k d low under. sym (same _ _) ∙ h k d low under

  pub stable_as : (xs ys : List X) → IsStableBy lt xs ys → IsStableBy to xs ys
  stable_as xs ys h = λ x.
      sym (filter_same (ties lt x) (ties to x) (ties_same x) ys) ∙ h x ∙ filter_same (ties lt x) (ties to x) (ties_same x) xs
