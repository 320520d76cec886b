-- Names, and lists of them: those that a word names with "," between, those that have a name, and one that none has.
use Rattle.std.proofs.Common.{◌≡◌, ◌≢◌, ℕ, zero, suc, ◌<◌, ◌≤◌, ◌^◌, ◌⊎◌, inl, inr, List, [], ◌∷◌, ◌++◌, All, length, get_or, map, None}
use Rattle.std.proofs.Common.{Bool, true, false, ◌&&◌, ◌||◌, eqb, eqb-true, refl, sym, ap, ◌∙◌, subst, arith, length-append}
use Rattle.std.specs.Prelude.{Contains}
use Rattle.std.specs.Fmt.{decimal}
use Rattle.std.specs.List.{IsDistinct, join_with_byte, list_all, range_with_len}
use Rattle.std.specs.Str.{bytes_eq}
use Rattle.std.specs.Str.Parse.{AllDigits, digits_value}
use Rattle.std.specs.Cmp.Lexicographic.{nat_list_eq_equiv}
use Rattle.std.proofs.lemmas.Slice.Eq.{bytes_eq-Decides}
use Rattle.std.proofs.lemmas.List.{map-append}
use Rattle.std.proofs.lemmas.List.FromFn.{length-map-range_with_len, get_or-map-range_with_len}
use Rattle.std.proofs.lemmas.List.Splits.{slice_split_none, slice_split_at}
use Rattle.std.proofs.lemmas.List.Elements.{All-contains}
use Rattle.std.proofs.lemmas.Map.Keys.{IsDistinct-push, IsDistinct-from_apart, apart_from_distinct}
use Rattle.std.proofs.lemmas.Map.Made.{length-le_from_is_member}
use Rattle.std.proofs.lemmas.Fmt.{decimal_injective, digits_decimal, length-decimal-le}
use Rattle.std.proofs.lemmas.Str.Parse.{IsNumeralModel, numerals_by_value, tells_digits, digit_at}
use Rattle.mg_read.specs.Passes.{AllPasses, StartsWith}
use Rattle.scr_tree.specs.Words.{IsName, reserved, is_name_start, is_name_byte}
use Rattle.mg_words.specs.Words.{Word, RoleClass, role_names}
use Rattle.mg_words.specs.inner.Judging.{names_in, has_name}
use Rattle.mg_words.proofs.WordsLemmas.{All-first, All-rest, All-cons, none_yet}

-- ---- the bytes of a name

apart : (b c : ℕ) → is_name_byte b ≡ true → is_name_byte c ≡ false → eqb b c ≡ false
apart b c h k = go (eqb b c) refl where
  go : (t : Bool) → eqb b c ≡ t → eqb b c ≡ false
  go true e =
      let same : is_name_byte b ≡ is_name_byte c = ap is_name_byte (eqb-true b c e) in
      let no : true ≡ false = sym h ∙ same ∙ k in
      absurd cc
  go false e = e

-- a byte that names have not isn't in one
pub none_of : (c : ℕ) → is_name_byte c ≡ false → (bytes : List ℕ) → AllPasses is_name_byte bytes → All (λ b. eqb b c ≡ false) bytes
none_of c k [] h = none_yet (λ (b : ℕ). eqb b c ≡ false)
none_of c k (b ∷ bs) (first, rest) = All-cons (λ (b : ℕ). eqb b c ≡ false) b bs (apart b c first k) (none_of c k bs rest)

-- what begins as a name is no option
pub starts_no_option : (word : Word) (n : ℕ) (rest : Word) → StartsWith is_name_start word → is_name_start n ≡ false → word ≡ n ∷ rest → ⊥
starts_no_option [] n rest h k e = h
starts_no_option (c ∷ cs) n rest h k e =
    let same : is_name_start c ≡ is_name_start n = ap (λ (w : Word). is_name_start (get_or w 0 0)) e in
    let no : true ≡ false = sym h ∙ same ∙ k in
    let never : ⊥ = cc in never

pub starts_on : (word more : Word) → StartsWith is_name_start word → StartsWith is_name_start (word ++ more)
starts_on [] more h = absurd h
starts_on (c ∷ cs) more h = h

pub starts_joined : (names : List Word) → names ≢ [] → All IsName names → StartsWith is_name_start (join_with_byte 44 names)
starts_joined [] some each = absurd (some refl)
starts_joined (x ∷ []) some each = (All-first IsName x [] each).starts
starts_joined (x ∷ y ∷ xs) some each =
    starts_on x (44 ∷ join_with_byte 44 (y ∷ xs)) (All-first IsName x (y ∷ xs) each).starts

-- ---- the names that a word names

pub names_joined : (names : List Word) → names ≢ [] → All IsName names → names_in (join_with_byte 44 names) ≡ names
names_joined [] some each = absurd (some refl)
names_joined (x ∷ []) some each =
    slice_split_none (λ b. eqb b 44) x (none_of 44 refl x (All-first IsName x [] each).bytes)
names_joined (x ∷ y ∷ xs) some each =
    slice_split_at (λ b. eqb b 44) x 44 (join_with_byte 44 (y ∷ xs)) (none_of 44 refl x (All-first IsName x (y ∷ xs) each).bytes) refl
    ∙ ap (λ (z : List Word). x ∷ z) (names_joined (y ∷ xs) (λ e. cc) (All-rest IsName x (y ∷ xs) each))

-- ---- whether a list has a name

pub there : {x : Word} (y : Word) (ys : List Word) → Contains ys x → Contains (y ∷ ys) x
there y ys (k, lt, e) = (suc k, omega arith, e)

pub here : (x : Word) (xs : List Word) → Contains (x ∷ xs) x
here x xs = (zero, omega arith, refl)

pub one_of : (y : Word) (ys : List Word) (x : Word) → Contains (y ∷ ys) x → (y ≡ x) ⊎ Contains ys x
one_of y ys x (zero, lt, e) = inl e
one_of y ys x (suc k, lt, e) = inr (k, omega arith, e)

pub in_none : (x : Word) → Contains [] x → ⊥
in_none x (k, lt, e) = absurd (omega arith)

pub same_name : (x y : Word) → bytes_eq x y ≡ true → x ≡ y
same_name x y h = (bytes_eq-Decides x y).0 h

pub name_same : (x y : Word) → x ≡ y → bytes_eq x y ≡ true
name_same x y e = (bytes_eq-Decides x y).1 e

or_true : (a b : Bool) → (a || b) ≡ true → (a ≡ true) ⊎ (b ≡ true)
or_true true b e = inl refl
or_true false b e = inr e

true_or : (a b : Bool) → b ≡ true → (a || b) ≡ true
true_or true b e = refl
true_or false b e = e

and_true : (a b : Bool) → (a && b) ≡ true → (a ≡ true) × (b ≡ true)
and_true true b e = (refl, e)
and_true false b e = absurd cc

true_and : (a b : Bool) → a ≡ true → b ≡ true → (a && b) ≡ true
true_and a b e k = ap (λ (z : Bool). z && b) e ∙ k

pub never_both : {P : Type 0} (b : Bool) → b ≡ true → b ≡ false → P
never_both b e k = let no : true ≡ false = sym e ∙ k in absurd cc

pub has_is : (names : List Word) (name : Word) → has_name names name ≡ true → Contains names name
has_is [] name h = absurd cc
has_is (y ∷ ys) name h = go (has_is ys name) (or_true (bytes_eq name y) (has_name ys name) h) where
  go : (has_name ys name ≡ true → Contains ys name) → (bytes_eq name y ≡ true) ⊎ (has_name ys name ≡ true) → Contains (y ∷ ys) name
  go later (inl e) = subst (λ (z : Word). Contains (y ∷ ys) z) (sym (same_name name y e)) (here y ys)
  go later (inr e) = there y ys (later e)

pub is_has : (names : List Word) (name : Word) → Contains names name → has_name names name ≡ true
is_has [] name h = absurd (in_none name h)
is_has (y ∷ ys) name h = go (is_has ys name) (one_of y ys name h) where
  go : (Contains ys name → has_name ys name ≡ true) → (y ≡ name) ⊎ Contains ys name → has_name (y ∷ ys) name ≡ true
  go later (inl e) = ap (λ (z : Bool). z || has_name ys name) (name_same name y (sym e))
  go later (inr k) = true_or (bytes_eq name y) (has_name ys name) (later k)

pub hasnt : (names : List Word) (name : Word) → (Contains names name → ⊥) → has_name names name ≡ false
hasnt names name none = go (has_name names name) refl where
  go : (t : Bool) → has_name names name ≡ t → has_name names name ≡ false
  go true e = absurd (none (has_is names name e))
  go false e = e

pub all_have : (names wanted : List Word) → list_all (has_name names) wanted ≡ true → All (Contains names) wanted
all_have names [] h = none_yet (Contains names)
all_have names (x ∷ xs) h =
    let both = and_true (has_name names x) (list_all (has_name names) xs) h in
    All-cons (Contains names) x xs (has_is names x both.0) (all_have names xs both.1)

pub have_all : (names wanted : List Word) → All (Contains names) wanted → list_all (has_name names) wanted ≡ true
have_all names [] h = refl
have_all names (x ∷ xs) h =
    true_and (has_name names x) (list_all (has_name names) xs) (is_has names x (All-first (Contains names) x xs h))
    (have_all names xs (All-rest (Contains names) x xs h))

-- one that lacks, where not all are there
pub lacking : (names wanted : List Word) → list_all (has_name names) wanted ≡ false
    → (name : Word) × Contains wanted name × (Contains names name → ⊥)
lacking names [] h = absurd cc
lacking names (x ∷ xs) h = go (lacking names xs) (has_name names x) refl where
  go : (list_all (has_name names) xs ≡ false → (name : Word) × Contains xs name × (Contains names name → ⊥)) → (t : Bool)
      → has_name names x ≡ t → (name : Word) × Contains (x ∷ xs) name × (Contains names name → ⊥)
  go later true e =
      let (name, there_it, not_it) = later (ap (λ (z : Bool). z && list_all (has_name names) xs) (sym e) ∙ h) in
      (name, there x xs there_it, not_it)
  go later false e = (x, here x xs, λ k. never_both (has_name names x) (is_has names x k) e)

-- each of a longer list is in it, and in a still longer one
pub All-there : (y : Word) (ys xs : List Word) → All (Contains ys) xs → All (Contains (y ∷ ys)) xs
All-there y ys [] h = none_yet (Contains (y ∷ ys))
All-there y ys (x ∷ xs) h =
    All-cons (Contains (y ∷ ys)) x xs (there y ys (All-first (Contains ys) x xs h)) (All-there y ys xs (All-rest (Contains ys) x xs h))

pub All-itself : (xs : List Word) → All (Contains xs) xs
All-itself [] = none_yet (Contains [])
All-itself (x ∷ xs) = All-cons (Contains (x ∷ xs)) x xs (here x xs) (All-there x xs xs (All-itself xs))

pub All-front : {A : Type 0} (P : A → Type 0) (xs ys : List A) → All P (xs ++ ys) → All P xs
All-front P [] ys h = none_yet P
All-front P (x ∷ xs) ys h = All-cons P x xs (All-first P x (xs ++ ys) h) (All-front P xs ys (All-rest P x (xs ++ ys) h))

-- ---- roles with names that differ

pub names_push : (rs : List RoleClass) (r : RoleClass) → role_names (rs ++ r ∷ []) ≡ role_names rs ++ r.role ∷ []
names_push rs r = map-append (λ (m : RoleClass). m.role) rs (r ∷ [])

pub names_on : (rs more : List RoleClass) → role_names (rs ++ more) ≡ role_names rs ++ role_names more
names_on rs more = map-append (λ (m : RoleClass). m.role) rs more

pub distinct_push : (rs : List RoleClass) (r : RoleClass) → IsDistinct bytes_eq (role_names rs) → (Contains (role_names rs) r.role → ⊥)
    → IsDistinct bytes_eq (role_names (rs ++ r ∷ []))
distinct_push rs r h new =
    subst (IsDistinct bytes_eq) (sym (names_push rs r))
    (IsDistinct-push nat_list_eq_equiv (role_names rs) r.role h (hasnt (role_names rs) r.role new))

-- one of names that differ isn't among those before it
pub before_differs : (xs : List Word) (x : Word) (more : List Word) → IsDistinct bytes_eq (xs ++ x ∷ more) → Contains xs x → ⊥
before_differs xs x more h (k, lt, e) =
    let later : get_or (xs ++ x ∷ more) (length xs) x ≡ x = at_end xs in
    let sooner : get_or (xs ++ x ∷ more) k x ≡ x = before xs k lt ∙ e in
    let within : length xs < length (xs ++ x ∷ more) = omega (arith, length-append xs (x ∷ more)) in
    let differ : bytes_eq (get_or (xs ++ x ∷ more) k x) (get_or (xs ++ x ∷ more) (length xs) x) ≡ false =
    apart_from_distinct bytes_eq (xs ++ x ∷ more) k (length xs) x h lt within in
    never_both (bytes_eq x x) (name_same x x refl) ((λ i. bytes_eq (sym sooner i) (sym later i)) ∙ differ) where
      at_end : (ys : List Word) → get_or (ys ++ x ∷ more) (length ys) x ≡ x
      at_end [] = refl
      at_end (y ∷ ys) = at_end ys

      before : (ys : List Word) (j : ℕ) → j < length ys → get_or (ys ++ x ∷ more) j x ≡ get_or ys j x
      before [] j l = absurd (omega arith)
      before (y ∷ ys) zero l = refl
      before (y ∷ ys) (suc j) l = before ys j (omega arith)

-- ---- a name that none has

abbrev numbered : ℕ → Word
numbered n = 82 ∷ decimal n

own : IsNumeralModel (AllDigits 10) (digits_value 10)
own = numerals_by_value (AllDigits 10) tells_digits

digit_passes : (c : ℕ) → 48 ≤ c → c ≤ 57 → is_name_byte c ≡ true
digit_passes c low high = grind (arith, low, high)

digits_pass : (bytes : List ℕ) → ((k : ℕ) → k < length bytes → (48 ≤ get_or bytes k 0) × (get_or bytes k 0 ≤ 57))
    → AllPasses is_name_byte bytes
digits_pass [] h = tt
digits_pass (c ∷ cs) h =
    let first = h 0 (omega arith) in
    (digit_passes c first.0 first.1, digits_pass cs (λ k lt. h (suc k) (omega arith)))

free_number : (n : ℕ) → reserved (numbered n) ≡ None
unfolding reserved
free_number n = refl

numbered_name : (n : ℕ) → n < 2 ^ 64 → IsName (numbered n)
numbered_name n small = record {
  starts = refl;
  bytes = (refl, digits_pass (decimal n) (λ k lt. digit_at (decimal n) k (digits_decimal own n (omega arith)) lt));
  short = omega (arith, length-decimal-le 20 n (omega arith) (omega arith) (omega arith));
  free = free_number n;
}

tail_of : (a b : List ℕ) → ◌≡◌ {A = Word} (82 ∷ a) (82 ∷ b) → a ≡ b
tail_of a b e = cc

numbered_apart : (m n : ℕ) → m < n → n < 2 ^ 64 → bytes_eq (numbered m) (numbered n) ≡ false
numbered_apart m n less small = go (bytes_eq (numbered m) (numbered n)) refl where
  go : (t : Bool) → bytes_eq (numbered m) (numbered n) ≡ t → bytes_eq (numbered m) (numbered n) ≡ false
  go true e =
      let same : decimal m ≡ decimal n = tail_of (decimal m) (decimal n) (same_name (numbered m) (numbered n) e) in
      let k : m ≡ n = decimal_injective m n (omega arith) (omega arith) same in
      absurd (omega arith)
  go false e = e

-- names in a row, more than there are roles
row : ℕ → List Word
row n = map numbered (range_with_len 0 n)

row_length : (n : ℕ) → length (row n) ≡ n
unfolding row
row_length n = length-map-range_with_len numbered 0 n

row_at : (n i : ℕ) (d : Word) → i < n → get_or (row n) i d ≡ numbered i
unfolding row
row_at n i d lt = get_or-map-range_with_len numbered 0 n i i d lt (omega arith)

row_differs : (n : ℕ) → n < 2 ^ 64 → IsDistinct bytes_eq (row n)
row_differs n small = IsDistinct-from_apart bytes_eq (row n) (λ i j d less within.
    let l : j < n = omega (arith, row_length n) in
    let m : i < n = omega arith in
    (λ z. bytes_eq (row_at n i d m z) (row_at n j d l z)) ∙ numbered_apart i j less (omega arith))

-- some name is none of these
pub free_name : (roles : List Word) → length roles < 2 ^ 63 → (name : Word) × IsName name × (Contains roles name → ⊥)
free_name roles few = go (list_all (has_name roles) (row n)) refl where
  n : ℕ
  n = suc (length roles)

  go : (t : Bool) → list_all (has_name roles) (row n) ≡ t → (name : Word) × IsName name × (Contains roles name → ⊥)
  go true e =
      let within : length (row n) ≤ length roles = length-le_from_is_member nat_list_eq_equiv (row n) roles (row_differs n (omega arith))
      (λ q h. is_has roles q (All-contains (Contains roles) (row n) q (all_have roles (row n) e) (has_is (row n) q h))) in
      absurd (omega (arith, row_length n))
  go false e =
      let (name, (k, lt, is), not_it) = lacking roles (row n) e in
      let l : k < n = omega (arith, row_length n) in
      let same : name ≡ numbered k = sym is ∙ row_at n k name l in
      (name, subst IsName (sym same) (numbered_name k (omega arith)), not_it)
