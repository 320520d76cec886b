-- Numbers of the first elements of a list by their names.
use Rattle.std.proofs.Common.{◌≡◌, ℕ, ◌+◌, ◌<◌, ◌≤◌, Bool, true, false, cond, eqb, ltb, not, List, [], ◌∷◌, ◌++◌, length, map, get_or, take, String}
use Rattle.std.proofs.Common.{string_bytes, Option, Some, None, Decides, refl, sym, ap, ◌∙◌, position, arith, length-append}
use Rattle.std.specs.Option.{option_or, is_some}
use Rattle.std.specs.HashMap.{HashMap, get_by_text, UpdatesBy}
use Rattle.std.specs.Str.{bytes_eq}
use Rattle.std.specs.String.{string_eq}
use Rattle.std.specs.List.{position_or_len}
use Rattle.std.proofs.lemmas.Bool.Decides.{nat_tests}
use Rattle.std.proofs.lemmas.List.{take_more, take_all, length-take-le}
use Rattle.std.proofs.lemmas.List.Folds.{position_or_len_push}
use Rattle.std.proofs.lemmas.List.Sums.{prefix_len-le-length}
use Rattle.std.proofs.lemmas.Map.Text.{hash_map_updates_text}
use Rattle.std.proofs.lemmas.Slice.Eq.{bytes_eq-Decides}
use Rattle.mg_text.specs.Call.{Name}
use Rattle.mg_text.proofs.Numbered.{position-map}

pushed : (b : Bool) (n l m k : ℕ) → n ≤ l → m ≡ cond (eqb n l) (l + cond b 0 1) n → k ≡ l + 1 →
    cond (ltb m k) (Some m) None ≡ option_or (cond (ltb n l) (Some n) None) (cond b (Some l) None)
pushed true n l m k low e f = grind (arith, nat_tests)
pushed false n l m k low e f = grind (arith, nat_tests)

-- one more element
position_more : {X : Type 0} (p : X → Bool) (xs : List X) (x : X) →
    position p (xs ++ x ∷ []) ≡ option_or (position p xs) (cond (p x) (Some (length xs)) None)
position_more p xs x =
    pushed (p x) (position_or_len p xs) (length xs) (position_or_len p (xs ++ x ∷ [])) (length (xs ++ x ∷ []))
    (prefix_len-le-length (λ y. not (p y)) xs) (position_or_len_push p xs x) (length-append xs (x ∷ []))

or_none : {X : Type 0} (o : Option X) → o ≡ option_or o None
or_none None = refl
or_none (Some x) = refl

or_some : {X : Type 0} (o d : Option X) → is_some o ≡ true → o ≡ option_or o d
or_some None d h = absurd cc
or_some (Some x) d h = refl

is_none : {X : Type 0} (o : Option X) → is_some o ≡ false → o ≡ None
is_none None h = refl
is_none (Some x) h = absurd cc

-- each name of the elements has the number of the first of them
pub record Numbers {X A S : Type 0} (key : X → Name) (xs : List X) (numbers : HashMap (String A) ℕ S) : Type 0 where
  pub each : (q : Name) → get_by_text numbers q ≡ position (λ x. bytes_eq (key x) q) xs

module _ {X A S : Type 0} (key : X → Name) (xs : List X) (i : ℕ) (x : X) (within : i < length xs) (is : x ≡ get_or xs i x)
    (old : HashMap (String A) ℕ S) (h : Numbers key (take i xs) old) where
  one_more : (q : Name) →
      position (λ y. bytes_eq (key y) q) (take (i + 1) xs) ≡ option_or (get_by_text old q) (cond (bytes_eq (key x) q) (Some i) None)
  one_more q =
      ap (position (λ y. bytes_eq (key y) q)) (take_more xs i x within ∙ ap (λ y. take i xs ++ y ∷ []) (sym is))
      ∙ position_more (λ y. bytes_eq (key y) q) (take i xs) x
      ∙ ap (λ n. option_or (position (λ y. bytes_eq (key y) q) (take i xs)) (cond (bytes_eq (key x) q) (Some n) None))
      (length-take-le i xs (omega (arith, within)))
      ∙ ap (λ o. option_or o (cond (bytes_eq (key x) q) (Some i) None)) (sym (h.each q))

  -- a name that is there already adds nothing
  pub number_kept : is_some (get_by_text old (key x)) ≡ true → Numbers key (take (i + 1) xs) old
  number_kept has = record { each = λ q. go q (bytes_eq (key x) q) (bytes_eq-Decides (key x) q) ∙ sym (one_more q) }
    where
      go : (q : Name) (b : Bool) → Decides b (key x ≡ q) → get_by_text old q ≡ option_or (get_by_text old q) (cond b (Some i) None)
      go q true d = or_some (get_by_text old q) (Some i) (ap (λ (z : Name). is_some (get_by_text old z)) (sym (d.0 refl)) ∙ has)
      go q false d = or_none (get_by_text old q)

  -- a new one has this number
  pub number_added : is_some (get_by_text old (key x)) ≡ false → (new : HashMap (String A) ℕ S) (text : String A) (n : ℕ) →
      string_bytes text ≡ key x → n ≡ i → UpdatesBy string_eq (λ k. bytes_eq (string_bytes text) (string_bytes k)) old new (Some n) →
      Numbers key (take (i + 1) xs) new
  number_added has new text n same counted u = record {
    each = λ q. hash_map_updates_text (string_bytes text) old new (Some n) u q
        ∙ ap (λ (z : Name). cond (bytes_eq z q) (Some n) (get_by_text old q)) same
        ∙ ap (λ k. cond (bytes_eq (key x) q) (Some k) (get_by_text old q)) counted
        ∙ go q (bytes_eq (key x) q) (bytes_eq-Decides (key x) q)
        ∙ sym (one_more q);
  }
    where
      go : (q : Name) (b : Bool) → Decides b (key x ≡ q) →
          cond b (Some i) (get_by_text old q) ≡ option_or (get_by_text old q) (cond b (Some i) None)
      go q true d = ap (λ (o : Option ℕ). option_or o (Some i))
          (sym (ap (λ (z : Name). get_by_text old z) (sym (d.0 refl)) ∙ is_none (get_by_text old (key x)) has))
      go q false d = or_none (get_by_text old q)

-- of all
pub numbers_all : {X Y A S : Type 0} (f : X → Y) (key : Y → Name) (xs : List X) (ys : List Y) (i : ℕ) (numbers : HashMap (String A) ℕ S) →
    length xs ≤ i → map f xs ≡ ys → Numbers (λ x. key (f x)) (take i xs) numbers →
    (q : Name) → get_by_text numbers q ≡ position (λ y. bytes_eq (key y) q) ys
numbers_all f key xs ys i numbers le same h q =
    h.each q ∙ ap (position (λ x. bytes_eq (key (f x)) q)) (take_all i xs le)
    ∙ sym (position-map (λ y. bytes_eq (key y) q) f xs)
    ∙ ap (position (λ y. bytes_eq (key y) q)) same
