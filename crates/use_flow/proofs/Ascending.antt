-- Numbers in rising order, each once, and what stands for them.
use Rattle.std.proofs.Common.{◌≡◌, ℕ, suc, ◌+◌, ◌-◌, ◌<◌, ◌≤◌, Bool, true, false, List, [], ◌∷◌, ◌++◌, length, get_or, drop, Option, Some}
use Rattle.std.proofs.Common.{None, slice_get, nat_eq, refl, sym, ap, ◌∙◌, subst, arith, if◌then◌else◌, ◌⊎◌, ⊎_elim, ◌||◌}
use Rattle.std.specs.List.{list_any, flat_map}
use Rattle.std.specs.BTreeSet.{insert_key}
use Rattle.std.specs.Ordering.{MatchOrdering, nat_cmp, match_ordering}
use Rattle.std.specs.declared.cmp.Ordering.{Ordering}
use Rattle.std.specs.declared.cmp.Ordering.TheVariants.{Less, Equal, Greater}
use Rattle.std.proofs.lemmas.Bool.{cases_lt}
use Rattle.std.proofs.lemmas.Bool.Decides.{nat_tests}
use Rattle.std.proofs.lemmas.Cmp.{ranked}
use Rattle.std.proofs.lemmas.List.{at_drop_more, at_drop_all}
use Rattle.use_flow.specs.inner.Reading.{risen, rising}

equal-same : (n : ℕ) → nat_eq n n ≡ true
equal-same n = grind (arith, nat_tests)

equal-above : (k n : ℕ) → k < n → nat_eq k n ≡ false
equal-above k n h = grind (arith, nat_tests, h)

equal-below : (k n : ℕ) → n < k → nat_eq k n ≡ false
equal-below k n h = grind (arith, nat_tests, h)

-- Who is in it.

swapped : (a b c : Bool) → (a || (b || c)) ≡ (b || (a || c))
swapped true true c = refl
swapped true false c = refl
swapped false true c = refl
swapped false false c = refl

doubled : (a b : Bool) → (a || b) ≡ (a || (a || b))
doubled true b = refl
doubled false b = refl

inserted-any : (k n : ℕ) (xs : List ℕ) → list_any (nat_eq k) (insert_key nat_cmp xs n) ≡ (nat_eq k n || list_any (nat_eq k) xs)
inserted-any k n [] = refl
inserted-any k n (x ∷ xs) = go (inserted-any k n xs) (nat_cmp n x) (ranked n x (nat_cmp n x) refl)
  where
    go : list_any (nat_eq k) (insert_key nat_cmp xs n) ≡ (nat_eq k n || list_any (nat_eq k) xs) → (o : Ordering) →
        MatchOrdering o (n < x) (n ≡ x) (x < n) →
        list_any (nat_eq k) (match_ordering o (n ∷ x ∷ xs) (x ∷ xs) (x ∷ insert_key nat_cmp xs n)) ≡
        (nat_eq k n || (nat_eq k x || list_any (nat_eq k) xs))
    go rest Less h = refl
    go rest Equal h = ap (λ y. nat_eq k y || list_any (nat_eq k) xs) (sym h) ∙ doubled (nat_eq k n) (list_any (nat_eq k) xs) ∙
        ap (λ y. nat_eq k n || (nat_eq k y || list_any (nat_eq k) xs)) h
    go rest Greater h = ap (λ b. nat_eq k x || b) rest ∙ swapped (nat_eq k x) (nat_eq k n) (list_any (nat_eq k) xs)

risen-any : (k : ℕ) (ns ks : List ℕ) → list_any (nat_eq k) (risen ns ks) ≡ (list_any (nat_eq k) ns || list_any (nat_eq k) ks)
risen-any k [] ks = refl
risen-any k (n ∷ ns) ks =
    risen-any k ns (insert_key nat_cmp ks n) ∙ ap (λ b. list_any (nat_eq k) ns || b) (inserted-any k n ks)
    ∙ swapped (list_any (nat_eq k) ns) (nat_eq k n) (list_any (nat_eq k) ks) ∙ regrouped (nat_eq k n) (list_any (nat_eq k) ns)
    (list_any (nat_eq k) ks)
  where
    regrouped : (a b c : Bool) → (a || (b || c)) ≡ ((a || b) || c)
    regrouped true b c = refl
    regrouped false b c = refl

or-none : (a : Bool) → (a || false) ≡ a
or-none true = refl
or-none false = refl

pub rising-any : (k : ℕ) (ns : List ℕ) → list_any (nat_eq k) (rising ns) ≡ list_any (nat_eq k) ns
rising-any k ns = risen-any k ns [] ∙ or-none (list_any (nat_eq k) ns)

-- The order: each is at least this number, and above those before it.

abbrev pub Ascend : ℕ → List ℕ → Type 0
Ascend n [] = Unit {0}
Ascend n (k ∷ ks) = (n ≤ k) × Ascend (suc k) ks

inserted-ascend : (b n : ℕ) (xs : List ℕ) → b ≤ n → Ascend b xs → Ascend b (insert_key nat_cmp xs n)
inserted-ascend b n [] le a = (le, tt)
inserted-ascend b n (x ∷ xs) le a = go (λ lt. inserted-ascend (suc x) n xs lt a.1) (nat_cmp n x) (ranked n x (nat_cmp n x) refl)
  where
    go : (suc x ≤ n → Ascend (suc x) (insert_key nat_cmp xs n)) → (o : Ordering) → MatchOrdering o (n < x) (n ≡ x) (x < n) →
        Ascend b (match_ordering o (n ∷ x ∷ xs) (x ∷ xs) (x ∷ insert_key nat_cmp xs n))
    go rest Less h = (le, ((let lt : n < x = h in omega (arith, lt)), a.1))
    go rest Equal h = a
    go rest Greater h = (a.0, rest (let lt : x < n = h in omega (arith, lt)))

risen-ascend : (ns ks : List ℕ) → Ascend 0 ks → Ascend 0 (risen ns ks)
risen-ascend [] ks a = a
risen-ascend (n ∷ ns) ks a = risen-ascend ns (insert_key nat_cmp ks n) (inserted-ascend 0 n ks (omega arith) a)

pub rising-ascend : (ns : List ℕ) → Ascend 0 (rising ns)
rising-ascend ns = risen-ascend ns [] tt

-- What stands for the items whose numbers are among others.
module _ {X Y : Type 0} (g : ℕ → X → List Y) where
  abbrev pub chosen : (ns : List ℕ) → (place : ℕ) → List X → List Y
  chosen ns i [] = []
  chosen ns i (x ∷ xs) = (if list_any (nat_eq i) ns then g i x else []) ++ chosen ns (suc i) xs

  pub chosen-same : (ns ms : List ℕ) (i : ℕ) (xs : List X) → ((j : ℕ) → i ≤ j → list_any (nat_eq j) ns ≡ list_any (nat_eq j) ms) →
      chosen ns i xs ≡ chosen ms i xs
  chosen-same ns ms i [] h = refl
  chosen-same ns ms i (x ∷ xs) h =
      ap (λ b. (if b then g i x else []) ++ chosen ns (suc i) xs) (h i (omega arith))
      ∙ ap (λ r. (if list_any (nat_eq i) ms then g i x else []) ++ r)
      (chosen-same ns ms (suc i) xs (λ j le. h j (let l : suc i ≤ j = le in omega (arith, l))))

  chosen-none : (i : ℕ) (xs : List X) → chosen [] i xs ≡ []
  chosen-none i [] = refl
  chosen-none i (x ∷ xs) = chosen-none (suc i) xs

  -- what stands for a number
  abbrev found : Option X → ℕ → List Y
  found o k = elim o [ None ↦ [] | Some x ↦ g k x ]

  pub record Stands (f : ℕ → List Y) (i : ℕ) (xs : List X) : Type 0 where
    pub each : (j k : ℕ) → k ≡ i + j → f k ≡ found (slice_get xs j) k

  stands-rest : (f : ℕ → List Y) (i : ℕ) (x : X) (xs : List X) → Stands f i (x ∷ xs) → Stands f (suc i) xs
  stands-rest f i x xs s = record { each = λ j k e. s.each (suc j) k (omega (arith, e)) }

  none-past : (f : ℕ → List Y) (i b : ℕ) (ks : List ℕ) → Stands f i [] → i ≤ b → Ascend b ks → flat_map f ks ≡ []
  none-past f i b [] s le a = refl
  none-past f i b (k ∷ ks) s le a =
      ap (λ r. r ++ flat_map f ks) (s.each (k - i) k (let h = a.0 in omega (arith, h, le)))
      ∙ none-past f i (suc k) ks s (let h = a.0 in omega (arith, h, le)) a.1

  above-any : (i b : ℕ) (ks : List ℕ) → i < b → Ascend b ks → list_any (nat_eq i) ks ≡ false
  above-any i b [] lt a = refl
  above-any i b (k ∷ ks) lt a =
      ap (λ c. c || list_any (nat_eq i) ks) (equal-above i k (let h = a.0 in omega (arith, h, lt)))
      ∙ above-any i (suc k) ks (let h = a.0 in omega (arith, h, lt)) a.1

  pub chosen-each : (f : ℕ → List Y) (i : ℕ) (ks : List ℕ) (xs : List X) → Ascend i ks → Stands f i xs → chosen ks i xs ≡ flat_map f ks
  chosen-each f i ks [] a s = sym (none-past f i i ks s (omega arith) a)
  chosen-each f i [] (x ∷ xs) a s = chosen-none (suc i) xs
  chosen-each f i (k ∷ ks) (x ∷ xs) a s =
      ⊎_elim (below (λ b. chosen-each f (suc i) (k ∷ ks) xs b (stands-rest f i x xs s)))
      (here (λ b. chosen-each f (suc i) ks xs b (stands-rest f i x xs s))) (cases_lt i k)
    where
      below : (Ascend (suc i) (k ∷ ks) → chosen (k ∷ ks) (suc i) xs ≡ flat_map f (k ∷ ks)) → i < k → chosen (k ∷ ks) i (x ∷ xs) ≡ flat_map f
          (k ∷ ks)
      below rest lt =
          ap (λ b. (if b then g i x else []) ++ chosen (k ∷ ks) (suc i) xs)
          (above-any i (suc i) (k ∷ ks) (omega arith) ((let l : i < k = lt in omega (arith, l)), a.1))
          ∙ rest ((let l : i < k = lt in omega (arith, l)), a.1)

      here : (Ascend (suc i) ks → chosen ks (suc i) xs ≡ flat_map f ks) → k ≤ i → chosen (k ∷ ks) i (x ∷ xs) ≡ flat_map f (k ∷ ks)
      here rest le =
          let same : k ≡ i = (let h = a.0 in let l : k ≤ i = le in omega (arith, h, l)) in
          ap (λ b. (if b then g i x else []) ++ chosen (k ∷ ks) (suc i) xs) (ap (λ n. nat_eq i n || list_any (nat_eq i) ks) same ∙
          ap (λ b. b || list_any (nat_eq i) ks) (equal-same i))
          ∙ ap (λ r. g i x ++ r) (chosen-same (k ∷ ks) ks (suc i) xs
          (λ j h. ap (λ b. b || list_any (nat_eq j) ks) (equal-below j k (let l : suc i ≤ j = h in omega (arith, l, same))))
          ∙ rest (subst (λ n. Ascend (suc n) ks) same a.1))
          ∙ ap (λ r. r ++ flat_map f ks) (sym (ap f same ∙ s.each 0 i (omega arith)))

  -- by the numbers in rising order
  pub chosen-rising : (f : ℕ → List Y) (ns : List ℕ) (xs : List X) → Stands f 0 xs → chosen ns 0 xs ≡ flat_map f (rising ns)
  chosen-rising f ns xs s = chosen-same ns (rising ns) 0 xs (λ j le. sym (rising-any j ns)) ∙ chosen-each f 0 (rising ns) xs
      (rising-ascend ns) s

-- A turn of a loop that puts numbers into a set.

pub number_risen : (ns : List ℕ) (i d : ℕ) (ks ks' total : List ℕ) → i < length ns → ks' ≡ insert_key nat_cmp ks (get_or ns i d) →
    risen (drop i ns) ks ≡ total → risen (drop (i + 1) ns) ks' ≡ total
number_risen ns i d ks ks' total lt e h = ap (risen (drop (i + 1) ns)) e ∙ sym (at_drop_more (λ xs. risen xs ks) ns i d lt) ∙ h

pub numbers_risen : (ns : List ℕ) (i : ℕ) (ks total : List ℕ) → length ns ≤ i → risen (drop i ns) ks ≡ total → ks ≡ total
numbers_risen ns i ks total le h = sym (at_drop_all (λ xs. risen xs ks) ns i le) ∙ h

pub risen_start : (ns ks : List ℕ) → ks ≡ [] → risen ns ks ≡ rising ns
risen_start ns ks e = ap (risen ns) e

pub ruleset gathering = (number_risen, numbers_risen, risen_start)
