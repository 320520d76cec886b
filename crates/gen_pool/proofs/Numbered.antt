-- What the set of keys does with a key is what the pool does with its constant.
use Rattle.std.proofs.Common.{◌≡◌, ℕ, suc, ◌+◌, Bool, true, false, cond, not, ◌≢◌, ◌≤◌, Option, position, nat_eq, ◌||◌, List, [], ◌∷◌, ◌++◌}
use Rattle.std.proofs.Common.{length, map, Some, None, ltb, refl, sym, ap, ◌∙◌, arith}
use Rattle.std.specs.List.{list_any, position_or_len}
use Rattle.std.proofs.lemmas.List.Sums.{prefix_len-le-length}
use Rattle.std.proofs.lemmas.Bool.Decides.{nat_tests}
use Rattle.std.proofs.lemmas.List.{map-append}
use Rattle.std.proofs.Math.ListN.{length-map}
use Rattle.indexmap.specs.IndexSet.{insert_key}
use Rattle.cls_tree.specs.declared.class.Const.{Const}
use Rattle.cls_tree.specs.Emitted.{same_const, found_or_added, number_of}
use Rattle.gen_pool.specs.declared.key.Key.{Key}
use Rattle.gen_pool.specs.declared.key.Key.TheVariants.{Utf8, Integer, Class, Text, Field, Method, NameAndType}
use Rattle.gen_pool.specs.contracts.key.KeyPartialEq.TheImpl as key
use Rattle.gen_pool.specs.Keys.{const_of}
use Rattle.gen_pool.specs.Made.{IsFull}
use Rattle.std.specs.Cmp.{unsigned_Decides}
use Rattle.std.proofs.lemmas.Bool.{false≢true}
use Rattle.std.proofs.lemmas.Option.{none-some}
use Rattle.std.proofs.lemmas.List.Quantifiers.{position-Some}
use Rattle.std.proofs.lemmas.List.{length-append}

-- whether two keys are equal
abbrev pub key_eq : Key → Key → Bool
key_eq = (key.ghosts).eq

-- keys are equal where their constants are
same : (x y : Key) → same_const (const_of x) (const_of y) ≡ key_eq x y
same (Utf8 a) (Utf8 b) = refl
same (Integer a) (Integer b) = refl
same (Class a) (Class b) = refl
same (Text a) (Text b) = refl
same (Field a b) (Field c d) = refl
same (Method a b) (Method c d) = refl
same (NameAndType a b) (NameAndType c d) = refl
same _ _ = refl

module _ {X Y : Type 0} (p : Y → Bool) (q : X → Bool) (f : X → Y) (e : (x : X) → p (f x) ≡ q x) where
  -- the place of the first image is that of the first that has one
  place-map : (xs : List X) → position_or_len p (map f xs) ≡ position_or_len q xs
  place-map [] = refl
  place-map (x ∷ xs) = ap (λ b. cond (not b) (1 + position_or_len p (map f xs)) 0) (e x) ∙ ap (λ n. cond (not (q x)) (1 + n) 0)
      (place-map xs)

-- one passes where the place of the first is below the length
one_more : (b r : Bool) (n len : ℕ) → r ≡ ltb n len → (b || r) ≡ ltb (cond (not b) (1 + n) 0) (suc len)
one_more true r n len e = grind (arith, nat_tests)
one_more false r n len e = grind (arith, nat_tests)

list_any-position : {X : Type 0} (p : X → Bool) (xs : List X) → list_any p xs ≡ ltb (position_or_len p xs) (length xs)
list_any-position p [] = refl
list_any-position p (x ∷ xs) = one_more (p x) (list_any p xs) (position_or_len p xs) (length xs) (list_any-position p xs)

-- where none is found, the place is the length
place-none : {X : Type 0} (p : X → Bool) (xs : List X) → ltb (position_or_len p xs) (length xs) ≡ false → position_or_len p xs ≡ length xs
place-none p xs none =
    let low = prefix_len-le-length (λ x. not (p x)) xs in
    grind (arith, nat_tests)

-- what is found or added, at any answer of the search
module _ (const : Const) (pool : List Const) (place : ℕ) where
  settled : (b : Bool) → (b ≡ false → place ≡ length pool)
      → found_or_added const pool (cond b (Some place) None) ≡ (suc place, cond b pool (pool ++ const ∷ []))
  settled true last = refl
  settled false last = ap (λ n. (suc n, pool ++ const ∷ [])) (sym (last refl))

-- a key's constants with one more at the end, or none
map-cond : (b : Bool) (ks : List Key) (k : Key) → map const_of (cond b ks (ks ++ k ∷ [])) ≡ cond b (map const_of ks)
    (map const_of ks ++ const_of k ∷ [])
map-cond true ks k = refl
map-cond false ks k = map-append const_of ks (k ∷ [])

-- the place of a constant is that of its key
pub at_key : (k : Key) (ks : List Key) → position (same_const (const_of k)) (map const_of ks) ≡ position (key_eq k) ks
at_key k ks = rw (place-map (same_const (const_of k)) (key_eq k) const_of (same k) ks, length-map ks const_of) refl

-- a key that is found isn't one too many
pub held_decides : (k : Key) (ks : List Key) (i : ℕ) → position (key_eq k) ks ≡ Some i
    → (false ≡ true → IsFull (const_of k) (map const_of ks)) × (IsFull (const_of k) (map const_of ks) → false ≡ true)
held_decides k ks i held = (λ e. absurd (false≢true e), λ f. absurd (none-some i (sym f.is_new ∙ at_key k ks ∙ held)))

-- a key that isn't found is one too many where its pool has the most
pub full_decides : (k : Key) (ks : List Key) (n : ℕ) → position (key_eq k) ks ≡ None → n ≡ length ks
    → (nat_eq n 65534 ≡ true → IsFull (const_of k) (map const_of ks)) × (IsFull (const_of k) (map const_of ks) → nat_eq n 65534 ≡ true)
full_decides k ks n none len =
    let all = length-map ks const_of in (
      λ e. record { is_new = at_key k ks ∙ none; has_most = all ∙ sym len ∙ (unsigned_Decides n 65534).0 e },
      λ f. (unsigned_Decides n 65534).1 (len ∙ sym all ∙ f.has_most),
    )

-- the pool's number and constants, of the set's place and keys
module _ (k : Key) (ks : List Key) where
  pub numbered : number_of (const_of k) (map const_of ks) ≡ (suc (position_or_len (key_eq k) ks), map const_of (insert_key key_eq ks k))
  unfolding number_of
  numbered =
      let at = place-map (same_const (const_of k)) (key_eq k) const_of (same k) ks in
      let len : length (map const_of ks) ≡ length ks = length-map ks const_of in
      let place = position_or_len (key_eq k) ks in
      let last : ltb place (length ks) ≡ false → place ≡ length (map const_of ks) = λ none. place-none (key_eq k) ks none ∙ sym len in
      rw (at, len, list_any-position (key_eq k) ks, map-cond (ltb place (length ks)) ks k)
      (settled (const_of k) (map const_of ks) place (ltb place (length ks)) last)

-- a constant that isn't one too many has its number in a class file, and leaves room there
module _ (c : Const) (pool : List Const) (room : length pool ≤ 65534) (go_on : IsFull c pool → ⊥) where
  roomy : (at : Option ℕ) → position (same_const c) pool ≡ at
      → ((found_or_added c pool at).0 ≤ 65534) × (length (found_or_added c pool at).1 ≤ 65534)
  roomy (Some k) h =
      let low = (position-Some (same_const c) pool k c h).0 in
      (omega arith, room)
  roomy None h =
      let few : length pool ≢ 65534 = λ e. go_on (record { is_new = h; has_most = e }) in
      let more : length (pool ++ c ∷ []) ≡ length pool + 1 = length-append pool (c ∷ []) in
      (omega arith, omega arith)

  pub has_room : ((number_of c pool).0 ≤ 65534) × (length (number_of c pool).1 ≤ 65534)
  unfolding number_of
  has_room = roomy (position (same_const c) pool) refl
