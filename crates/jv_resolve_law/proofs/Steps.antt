-- Answers that were given, step by step, and what is found at a place.
use Rattle.std.proofs.Common.{◌≡◌, ℕ, zero, suc, ◌+◌, Bool, true, false, cond, not, List, [], ◌∷◌, ◌++◌, map, length, Option, Some, None}
use Rattle.std.proofs.Common.{option_map, position, nat_lt, slice_get, refl, sym, ap, ◌∙◌, subst, arith}
use Rattle.std.specs.Prelude.{find, if◌then◌else◌}
use Rattle.std.specs.List.{position_or_len}
use Rattle.std.specs.Str.{bytes_eq}
use Rattle.std.proofs.lemmas.Bool.Decides.{nat_tests, same_from_decides}
use Rattle.std.proofs.lemmas.Slice.Eq.{bytes_eq-Decides}
use Rattle.mg_text.specs.Call.{Name}
use Rattle.mg_text.proofs.Numbered.{position-map}
use Rattle.jv_names.proofs.Tables.{some_is, none_some}
use Rattle.jv_resolve_law.specs.Tables.{◌>>=◌, Interned, interned}
use Rattle.mg_text.specs.Interned.{with_text}
use Rattle.std.specs.Option.{is_some}

-- the first answer, and what came of it
pub record Bound {A B : Type 0} (o : Option A) (f : A → Option B) (b : B) : Type 0 where
  pub item : A
  pub is : o ≡ Some item
  pub gives : f item ≡ Some b

pub bound : {A B : Type 0} (o : Option A) (f : A → Option B) (b : B) → o >>= f ≡ Some b → Bound o f b
bound None f b e = absurd (none_some e)
bound (Some a) f b e = record { item = a; is = refl; gives = e }

pub record Mapped {A B : Type 0} (f : A → B) (o : Option A) (b : B) : Type 0 where
  pub item : A
  pub is : o ≡ Some item
  pub gives : f item ≡ b

pub mapped : {A B : Type 0} (f : A → B) (o : Option A) (b : B) → option_map f o ≡ Some b → Mapped f o b
mapped f None b e = absurd (none_some e)
mapped f (Some a) b e = record { item = a; is = refl; gives = some_is e }

-- Places.

lt-suc : (n len : ℕ) → nat_lt (1 + n) (suc len) ≡ nat_lt n len
lt-suc n len = grind (arith, nat_tests)

first-lt : (len : ℕ) → nat_lt 0 (suc len) ≡ true
first-lt len = grind (arith, nat_tests)

one_further : (b : Bool) (n len : ℕ) →
    cond (nat_lt (cond (not b) (1 + n) 0) (suc len)) (Some (cond (not b) (1 + n) 0)) None
    ≡ cond b (Some 0) (option_map suc (cond (nat_lt n len) (Some n) None))
one_further true n len = ap (λ t. cond t (Some 0) None) (first-lt len)
one_further false n len = ap (λ t. cond t (Some (1 + n)) None) (lt-suc n len) ∙ go (nat_lt n len)
  where
    go : (t : Bool) → cond t (Some (1 + n)) None ≡ option_map suc (cond t (Some n) None)
    go true = ap Some (omega arith)
    go false = refl

pub position-next : {X : Type 0} (p : X → Bool) (x : X) (xs : List X) →
    position p (x ∷ xs) ≡ cond (p x) (Some 0) (option_map suc (position p xs))
position-next p x xs = one_further (p x) (position_or_len p xs) (length xs)

-- what stands at a place that was found
pub record Standing {X : Type 0} (p : X → Bool) (xs : List X) (n : ℕ) : Type 0 where
  pub item : X
  pub at : slice_get xs n ≡ Some item
  pub passes : p item ≡ true
  pub first : find p xs ≡ Some item

pub standing : {X : Type 0} (p : X → Bool) (xs : List X) (n : ℕ) → position p xs ≡ Some n → Standing p xs n
standing p [] n e = absurd (none_some e)
standing {X} p (x ∷ xs) n e = go (p x) refl (λ n e. standing p xs n e) (sym (position-next p x xs) ∙ e)
  where
    here : (n : ℕ) → p x ≡ true → 0 ≡ n → Standing p (x ∷ xs) n
    here n t z = subst (Standing p (x ∷ xs)) z (record
        { item = x; at = refl; passes = t; first = ap (λ b. cond b (Some x) (find p xs)) t })

    later : p x ≡ false → (m : ℕ) → Standing p xs m → Standing p (x ∷ xs) (suc m)
    later t m s = record { item = s.item; at = s.at; passes = s.passes; first = ap (λ b. cond b (Some x) (find p xs)) t ∙ s.first }

    go : (b : Bool) → p x ≡ b → ((n : ℕ) → position p xs ≡ Some n → Standing p xs n) →
        cond b (Some 0) (option_map suc (position p xs)) ≡ Some n → Standing p (x ∷ xs) n
    go true t ih e = here n t (some_is e)
    go false t ih e = let m = mapped suc (position p xs) n e in subst (Standing p (x ∷ xs)) m.gives (later t m.item (ih m.item m.is))

pub nothing_stands : {X : Type 0} (p : X → Bool) (xs : List X) → position p xs ≡ None → find p xs ≡ None
nothing_stands p [] e = refl
nothing_stands p (x ∷ xs) e = go (p x) refl (λ e. nothing_stands p xs e) (sym (position-next p x xs) ∙ e)
  where
    step : (o : Option ℕ) → option_map suc o ≡ None → o ≡ None
    step None e = refl
    step (Some n) e = absurd (none_some (sym e))

    go : (b : Bool) → p x ≡ b → (position p xs ≡ None → find p xs ≡ None) → cond b (Some 0) (option_map suc (position p xs)) ≡ None →
        cond (p x) (Some x) (find p xs) ≡ None
    go true t ih e = absurd (none_some (sym e))
    go false t ih e = ap (λ b. cond b (Some x) (find p xs)) t ∙ ih (step (position p xs) e)

-- Names.

pub flipped : (a b : Name) → bytes_eq a b ≡ bytes_eq b a
flipped a b =
    same_from_decides (bytes_eq a b) (bytes_eq b a) (bytes_eq-Decides a b)
    ((λ e. sym ((bytes_eq-Decides b a).0 e)), (λ e. (bytes_eq-Decides b a).1 (sym e)))

find-same : {X : Type 0} (p q : X → Bool) (xs : List X) → ((x : X) → p x ≡ q x) → find p xs ≡ find q xs
find-same p q [] same = refl
find-same p q (x ∷ xs) same = ap (λ b. cond b (Some x) (find p xs)) (same x) ∙ ap (λ o. cond (q x) (Some x) o) (find-same p q xs same)

-- the one of a name, which stands at this place
pub record Named {X : Type 0} (key : X → Name) (xs : List X) (name : Name) (n : ℕ) : Type 0 where
  pub item : X
  pub at : slice_get xs n ≡ Some item
  pub has : key item ≡ name
  pub first : find (λ x. bytes_eq (key x) name) xs ≡ Some item

pub named : {X : Type 0} (key : X → Name) (xs : List X) (name : Name) (n : ℕ) → position (bytes_eq name) (map key xs) ≡ Some n →
    Named key xs name n
named key xs name n e =
    let s = standing (λ x. bytes_eq name (key x)) xs n (sym (position-map (bytes_eq name) key xs) ∙ e) in
    record {
      item = s.item;
      at = s.at;
      has = sym ((bytes_eq-Decides name (key s.item)).0 s.passes);
      first = find-same (λ x. bytes_eq (key x) name) (λ x. bytes_eq name (key x)) xs (λ x. flipped (key x) name) ∙ s.first;
    }

pub not_named : {X : Type 0} (key : X → Name) (xs : List X) (name : Name) → position (bytes_eq name) (map key xs) ≡ None →
    find (λ x. bytes_eq (key x) name) xs ≡ None
not_named key xs name e =
    find-same (λ x. bytes_eq (key x) name) (λ x. bytes_eq name (key x)) xs (λ x. flipped (key x) name)
    ∙ nothing_stands (λ x. bytes_eq name (key x)) xs (sym (position-map (bytes_eq name) key xs) ∙ e)

-- Lists that grow at their end.

-- what stands in the one list stands in the other at the same place
abbrev pub Extends : {A : Type 0} → List A → List A → Type 0
Extends {A} xs ys = (n : ℕ) (a : A) → slice_get xs n ≡ Some a → slice_get ys n ≡ Some a

pub at_front : {A : Type 0} (xs ys : List A) (n : ℕ) (a : A) → slice_get xs n ≡ Some a → slice_get (xs ++ ys) n ≡ Some a
at_front [] ys n a e = absurd (none_some e)
at_front (x ∷ xs) ys zero a e = e
at_front (x ∷ xs) ys (suc n) a e = at_front xs ys n a e

pub at_end : {A : Type 0} (xs : List A) (a : A) → slice_get (xs ++ a ∷ []) (length xs) ≡ Some a
at_end [] a = refl
at_end (x ∷ xs) a = at_end xs a

-- a name that got its number
pub record HasNumber (names : List Name) (name : Name) (r : Interned) : Type 0 where
  pub at : slice_get r.names r.number ≡ Some name
  pub grown : Extends names r.names

pub numbered : (names : List Name) (name : Name) (r : Interned) → interned names name ≡ Some r → HasNumber names name r
numbered names name r e =
    let b = bound (position (bytes_eq name) (with_text names name)) (λ n. Some (record { number = n; names = with_text names name })) r
    e in
    let s = standing (bytes_eq name) (with_text names name) b.item b.is in
    let same : record { number = b.item; names = with_text names name } ≡ r = some_is b.gives in
    record {
      at = subst (λ (r : Interned). slice_get r.names r.number ≡ Some name) same
          (s.at ∙ ap Some (sym ((bytes_eq-Decides name s.item).0 s.passes)));
      grown = subst (λ (r : Interned). Extends names r.names) same (go (is_some (position (bytes_eq name) names)));
    }
  where
    go : (t : Bool) → Extends names (if t then names else names ++ name ∷ [])
    go true = λ n a e. e
    go false = λ n a e. at_front names (name ∷ []) n a e
