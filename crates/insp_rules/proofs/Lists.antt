-- Facts on lists side by side, and on functions that are changed at one number.
use Rattle.std.proofs.Common.{◌≡◌, ◌≢◌, ◌⊎◌, inl, inr, ℕ, zero, suc, ◌<◌, ◌≤◌, Bool, true, false, true≢false, List, [], ◌∷◌, Some, None}
use Rattle.std.proofs.Common.{refl, sym, ap, ◌∙◌, arith}
use Rattle.std.specs.Prelude.{◌==◌, if◌then◌else◌}
use Rattle.std.proofs.lemmas.Bool.Decides.{eqb_tells}
use Rattle.insp_rules.specs.Program.{Give, From, Just, Bare as BareOf, Other, Kit, unknown, nth, first, rest, placed, filled, turned}
use Rattle.insp_rules.specs.Program.{given, gives}
use Rattle.insp_rules.specs.Skeleton.{put}
use Rattle.insp_rules.specs.Frames.{is_below}
use Rattle.insp_rules.specs.Reached.{Both, none, more}

pub some_is : {A : Type 0} {a b : A} → Some a ≡ Some b → a ≡ b
some_is e = cc

pub none_some : {A P : Type 0} {a : A} → None ≡ Some a → P
none_some e = absurd (cc)

-- ---- one number

pub is_same : (a : ℕ) → (a == a) ≡ true
is_same a = go (eqb_tells a a)
  where
    go : ((a == a) ≡ true) × (a ≡ a) ⊎ ((a == a) ≡ false) × (a ≢ a) → (a == a) ≡ true
    go (inl h) = h.0
    go (inr h) = absurd (h.1 refl)

pub put_same : {A : Type 0} (n : ℕ) (x : A) (f : ℕ → A) → put n x f n ≡ x
put_same n x f = ap (λ (b : Bool). if b then x else f n) (is_same n)

pub data Put {A : Type 0} (n : ℕ) (x : A) (f : ℕ → A) (k : ℕ) : Type 0 where
  is : k ≡ n → (k == n) ≡ true → put n x f k ≡ x → Put n x f k
  isnt : k ≢ n → (k == n) ≡ false → put n x f k ≡ f k → Put n x f k

pub putting : {A : Type 0} (n : ℕ) (x : A) (f : ℕ → A) (k : ℕ) → Put n x f k
putting n x f k = go (eqb_tells k n)
  where
    go : ((k == n) ≡ true) × (k ≡ n) ⊎ ((k == n) ≡ false) × (k ≢ n) → Put n x f k
    go (inl h) = is h.1 h.0 (ap (λ (b : Bool). if b then x else f k) h.0)
    go (inr h) = isnt h.1 h.0 (ap (λ (b : Bool). if b then x else f k) h.0)

pub put_other : {A : Type 0} (n : ℕ) (x : A) (f : ℕ → A) (k : ℕ) → k ≢ n → put n x f k ≡ f k
put_other n x f k h = go (putting n x f k)
  where
    go : Put n x f k → put n x f k ≡ f k
    go (is e b p) = absurd (h e)
    go (isnt e b p) = p

-- ---- lists side by side

module _ {A B : Type 0} (R : A → B → Type 0) where
  pub both_nth : (a : A) (b : B) → R a b → (i : ℕ) → {xs : List A} {ys : List B} → Both R xs ys → R (nth a xs i) (nth b ys i)
  both_nth a b r i none = r
  both_nth a b r zero (more h hs) = h
  both_nth a b r (suc i) (more h hs) = both_nth a b r i hs

  pub both_first : (n : ℕ) → {xs : List A} {ys : List B} → Both R xs ys → Both R (first n xs) (first n ys)
  both_first zero hs = none
  both_first (suc n) none = none
  both_first (suc n) (more h hs) = more h (both_first n hs)

  pub both_rest : (n : ℕ) → {xs : List A} {ys : List B} → Both R xs ys → Both R (rest n xs) (rest n ys)
  both_rest zero hs = hs
  both_rest (suc n) none = none
  both_rest (suc n) (more h hs) = both_rest n hs

  pub both_placed : (a : A) (b : B) → R a b → (i : ℕ) → {xs : List A} {ys : List B} → Both R xs ys → Both R (placed xs i a) (placed ys i b)
  both_placed a b r i none = none
  both_placed a b r zero (more h hs) = more r hs
  both_placed a b r (suc i) (more h hs) = more h (both_placed a b r i hs)

  pub both_filled : (a : A) (b : B) → R a b → (n : ℕ) → {xs : List A} {ys : List B} → Both R xs ys → Both R (filled a n xs) (filled b n ys)
  both_filled a b r zero hs = hs
  both_filled a b r (suc n) hs = more r (both_filled a b r n hs)

  pub both_turned : {xs us : List A} {ys vs : List B} → Both R xs ys → Both R us vs → Both R (turned xs us) (turned ys vs)
  both_turned none rs = rs
  both_turned (more h hs) rs = both_turned hs (more h rs)

  -- what two kits make
  pub record Kits (k : Kit A) (l : Kit B) : Type 0 where
    pub bare : (b : BareOf) → R (k.bare b) (l.bare b)
    pub cast : (a : A) (b : B) → R a b → R (k.cast a) (l.cast b)
    pub index : (a c : A) (b d : B) → R a b → R c d → R (k.index a c) (l.index b d)
    pub ordinal : (a : A) (b : B) → R a b → R (k.ordinal a) (l.ordinal b)

  pub both_given : (k : Kit A) (l : Kit B) → Kits k l → (g : Give) → {xs : List A} {ys : List B} → Both R xs ys →
      R (given k xs g) (given l ys g)
  both_given k l ks (From i) hs = both_nth (unknown k) (unknown l) (ks.bare Other) i hs
  both_given k l ks (Just b) hs = ks.bare b

  pub both_gives : (k : Kit A) (l : Kit B) → Kits k l → {xs : List A} {ys : List B} → Both R xs ys → {us : List A} {vs : List B} →
      Both R us vs → (gs : List Give) → Both R (gives k xs gs us) (gives l ys gs vs)
  both_gives k l ks hs rs [] = rs
  both_gives k l ks hs rs (g ∷ gs) = more (both_given k l ks g hs) (both_gives k l ks hs rs gs)

pub both_map : {A B : Type 0} (R S : A → B → Type 0) → ((a : A) (b : B) → R a b → S a b) → {xs : List A} {ys : List B} → Both R xs ys →
    Both S xs ys
both_map R S f none = none
both_map R S f (more {a = a} {b = b} h hs) = more (f a b h) (both_map R S f hs)

pub below_is : (n g : ℕ) → is_below n g ≡ true → g < n
below_is zero g e = absurd (true≢false (sym e))
below_is (suc n) g e = go (eqb_tells n g) e (below_is n g)
  where
    go : ((n == g) ≡ true) × (n ≡ g) ⊎ ((n == g) ≡ false) × (n ≢ g) → (if n == g then true else is_below n g) ≡ true →
        (is_below n g ≡ true → g < n) → g < suc n
    go (inl t) e f = let i = t.1 in omega (arith, i)
    go (inr t) e f =
        let l = f (sym (ap (λ (b : Bool). if b then true else is_below n g) t.0) ∙ e) in omega (arith, l)

pub is_below_is : (n g : ℕ) → g < n → is_below n g ≡ true
is_below_is zero g less = absurd (omega (arith, less))
is_below_is (suc n) g less = go (eqb_tells n g) (λ l. is_below_is n g l)
  where
    go : ((n == g) ≡ true) × (n ≡ g) ⊎ ((n == g) ≡ false) × (n ≢ g) → (g < n → is_below n g ≡ true) →
        (if n == g then true else is_below n g) ≡ true
    go (inl t) f = ap (λ (b : Bool). if b then true else is_below n g) t.0
    go (inr t) f =
        let ne = t.1 in
        ap (λ (b : Bool). if b then true else is_below n g) t.0
        ∙ f (Rattle.std.proofs.Common.lt_of_not-le (λ le. ne (omega (arith, less, le))))

pub below_or_not : (a b : ℕ) → (a < b) ⊎ (b ≤ a)
below_or_not a zero = inr (omega arith)
below_or_not zero (suc b) = inl (omega arith)
below_or_not (suc a) (suc b) = go (below_or_not a b)
  where
    go : (a < b) ⊎ (b ≤ a) → (suc a < suc b) ⊎ (suc b ≤ suc a)
    go (inl h) = inl (omega (arith, h))
    go (inr h) = inr (omega (arith, h))
