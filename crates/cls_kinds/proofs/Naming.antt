-- Kinds by numbers say what kinds say: what they are joined to, and which fit which.
use Rattle.std.proofs.Common.{◌≡◌, ℕ, zero, suc, ◌+◌, ◌<◌, ◌≤◌, ◌⊎◌, inl, inr, Bool, true, false, List, [], ◌∷◌, length, get_or, Option}
use Rattle.std.proofs.Common.{Some, None, refl, sym, ap, ap₂, ◌∙◌, arith}
use Rattle.std.specs.Prelude.{if◌then◌else◌, ◌||◌, nat_eq, slice_get}
use Rattle.std.specs.Str.{bytes_eq}
use Rattle.std.proofs.lemmas.List.{length-replicate}
use Rattle.std.proofs.lemmas.Bool.{cases_lt, cases_eq}
use Rattle.std.proofs.lemmas.Bool.Decides.{nat_tests}
use Rattle.std.proofs.lemmas.Option.{slice_get_within, get_or_from_slice_get}
use Rattle.std.proofs.lemmas.Slice.Eq.{bytes_eq-Decides}
use Rattle.std.proofs.lemmas.Map.Keys.{apart_from_distinct}
use Rattle.mg_text.specs.Call.{Name}
use Rattle.cls_verify.specs.Kinds.{Instance, object, Fits}
use Rattle.cls_verify.specs.Joins.{join, join_all}
use Rattle.cls_kinds.specs.declared.kind.Kind.{Kind}
use Rattle.cls_kinds.specs.Numbers.{is_plain, joined_number, joined, fits_number, fits_in, joined_all}
use Rattle.cls_kinds.proofs.Joining.{chain_is, equal_is, equal_not}
use Rattle.cls_kinds.specs.Named.{AreNames, total_length, or_unnamed, name_at, numbered, kind_of, kinds_of}

-- Names differ where their numbers do.

longest : (names : List Name) (i : ℕ) (name : Name) → slice_get names i ≡ Some name → length name ≤ total_length names
longest [] i name e = absurd (let h = slice_get_within [] i name e in omega (arith, h))
longest (x ∷ xs) zero name e = let same : x ≡ name = cc e in let l = ap length same in omega (arith, l)
longest (x ∷ xs) (suc i) name e = let h = longest xs i name e in omega (arith, h)

module _ (names : List Name) (n : AreNames names) where
  apart : (i j : ℕ) (a : Name) → i < j → slice_get names i ≡ Some a → slice_get names j ≡ Some a → ⊥
  apart i j a h e f =
      let d : bytes_eq (get_or names i a) (get_or names j a) ≡ false =
      apart_from_distinct bytes_eq names i j a n.apart h (slice_get_within names j a f) in
      let s : bytes_eq (get_or names i a) (get_or names j a) ≡ true =
      (bytes_eq-Decides (get_or names i a) (get_or names j a)).1
      (get_or_from_slice_get names i a a e ∙ sym (get_or_from_slice_get names j a a f)) in
      absurd (cc (d, s))

  both_there : (i j : ℕ) (a b : Name) → slice_get names i ≡ Some a → slice_get names j ≡ Some b → a ≡ b → (i ≡ j → ⊥) → ⊥
  both_there i j a b e f same ne = order (cases_lt i j)
    where
      g : slice_get names j ≡ Some a
      g = f ∙ ap Some (sym same)

      order : (i < j) ⊎ (j ≤ i) → ⊥
      order (inl h) = apart i j a h e g
      order (inr h) = apart j i a (omega (arith, h, ne)) g e

  unnamed_long : (i : ℕ) → length (or_unnamed names i None) ≡ total_length names + i + 1
  unnamed_long i = length-replicate (total_length names + i + 1) 0

  one_there : (i j : ℕ) (a : Name) → slice_get names i ≡ Some a → a ≡ or_unnamed names j None → ⊥
  one_there i j a e same =
      let l = longest names i a e in
      let u : length a ≡ total_length names + j + 1 = ap length same ∙ unnamed_long j in omega (arith, l, u)

  pub names_differ : (i j : ℕ) → (i ≡ j → ⊥) → name_at names i ≡ name_at names j → ⊥
  names_differ i j ne = go (slice_get names i) (slice_get names j) refl refl
    where
      go : (a b : Option Name) → slice_get names i ≡ a → slice_get names j ≡ b → or_unnamed names i a ≡ or_unnamed names j b → ⊥
      go (Some a) (Some b) e f same = both_there i j a b e f same ne
      go (Some a) None e f same = one_there i j a e same
      go None (Some b) e f same = one_there j i b f (sym same)
      go None None e f same =
          let l : total_length names + i + 1 ≡ total_length names + j + 1 = sym (unnamed_long i) ∙ ap length same ∙ unnamed_long j in
          ne (omega (arith, l))

  pub first_name : name_at names 0 ≡ object
  first_name = ap (or_unnamed names 0) n.first

-- Tests of numbers.

four_not : (i c : ℕ) → c < 4 → nat_eq (suc (suc (suc (suc i)))) c ≡ false
four_not i c h = grind (arith, nat_tests)

not_four : (i c : ℕ) → c < 4 → nat_eq c (suc (suc (suc (suc i)))) ≡ false
not_four i c h = grind (arith, nat_tests)

four_plain : (i : ℕ) → is_plain (suc (suc (suc (suc i)))) ≡ false
four_plain i = rw (four_not i 0 (omega arith), four_not i 3 (omega arith)) refl

-- What two kinds are joined to.

either : (a b c d : Bool) → a ≡ c → b ≡ d → (a || b) ≡ (c || d)
either a b c d e f = rw (e, f) refl

same_objects : (c d : Name) → c ≡ d → join (Instance c) (Instance d) ≡ Instance c
same_objects c d e = ap (λ b. if b then Instance c else Instance object) ((bytes_eq-Decides c d).1 e)

other_objects : (c d : Name) → (c ≡ d → ⊥) → join (Instance c) (Instance d) ≡ Instance object
other_objects c d ne = go (bytes_eq c d) refl
  where
    go : (b : Bool) → bytes_eq c d ≡ b → (if b then Instance c else Instance object) ≡ Instance object
    go true e = absurd (ne ((bytes_eq-Decides c d).0 e))
    go false e = refl

module _ (names : List Name) (n : AreNames names) where
  object_number : numbered names 4 ≡ Instance object
  object_number = ap Instance (first_name names n)

  both_named : (i j : ℕ) → (i ≡ j) ⊎ (i ≡ j → ⊥) →
      numbered names (joined_number (suc (suc (suc (suc i)))) (suc (suc (suc (suc j))))) ≡ join (Instance (name_at names i))
      (Instance (name_at names j))
  both_named i j (inl e) =
      ap (numbered names) (chain_is (suc (suc (suc (suc i)))) (suc (suc (suc (suc j)))) true false false false
      (let h : suc (suc (suc (suc i))) ≡ suc (suc (suc (suc j))) = omega (arith, e) in equal_is (suc (suc (suc (suc i))))
      (suc (suc (suc (suc j)))) h)
      (either _ _ false false (four_plain i) (four_plain j)) (four_not i 2 (omega arith)) (four_not j 2 (omega arith)))
      ∙ sym (same_objects (name_at names i) (name_at names j) (ap (name_at names) e))
  both_named i j (inr ne) =
      ap (numbered names) (chain_is (suc (suc (suc (suc i)))) (suc (suc (suc (suc j)))) false false false false
      (equal_not (suc (suc (suc (suc i)))) (suc (suc (suc (suc j)))) (λ h. ne (omega (arith, h))))
      (either _ _ false false (four_plain i) (four_plain j)) (four_not i 2 (omega arith)) (four_not j 2 (omega arith)))
      ∙ object_number
      ∙ sym (other_objects (name_at names i) (name_at names j) (names_differ names n i j ne))

  pub joined_number_is : (k l : ℕ) → numbered names (joined_number k l) ≡ join (numbered names k) (numbered names l)
  joined_number_is zero zero = refl
  joined_number_is zero (suc zero) = refl
  joined_number_is zero (suc (suc zero)) = refl
  joined_number_is zero (suc (suc (suc zero))) = refl
  joined_number_is (suc zero) zero = refl
  joined_number_is (suc zero) (suc zero) = refl
  joined_number_is (suc zero) (suc (suc zero)) = refl
  joined_number_is (suc zero) (suc (suc (suc zero))) = refl
  joined_number_is (suc (suc zero)) zero = refl
  joined_number_is (suc (suc zero)) (suc zero) = refl
  joined_number_is (suc (suc zero)) (suc (suc zero)) = refl
  joined_number_is (suc (suc zero)) (suc (suc (suc zero))) = refl
  joined_number_is (suc (suc (suc zero))) zero = refl
  joined_number_is (suc (suc (suc zero))) (suc zero) = refl
  joined_number_is (suc (suc (suc zero))) (suc (suc zero)) = refl
  joined_number_is (suc (suc (suc zero))) (suc (suc (suc zero))) = refl
  joined_number_is zero (suc (suc (suc (suc j)))) =
      ap (numbered names) (chain_is 0 (suc (suc (suc (suc j)))) false true false false (not_four j 0 (omega arith)) (refl) refl
      (four_not j 2 (omega arith)))
  joined_number_is (suc zero) (suc (suc (suc (suc j)))) =
      ap (numbered names) (chain_is 1 (suc (suc (suc (suc j)))) false false false false (not_four j 1 (omega arith)) (four_plain j) refl
      (four_not j 2 (omega arith))) ∙ object_number
  joined_number_is (suc (suc zero)) (suc (suc (suc (suc j)))) =
      ap (numbered names) (chain_is 2 (suc (suc (suc (suc j)))) false false true false (not_four j 2 (omega arith)) (four_plain j) refl
      (four_not j 2 (omega arith)))
  joined_number_is (suc (suc (suc zero))) (suc (suc (suc (suc j)))) =
      ap (numbered names) (chain_is 3 (suc (suc (suc (suc j)))) false true false false (not_four j 3 (omega arith)) (refl) refl
      (four_not j 2 (omega arith)))
  joined_number_is (suc (suc (suc (suc i)))) zero =
      ap (numbered names) (chain_is (suc (suc (suc (suc i)))) 0 false true false false (four_not i 0 (omega arith))
      (either _ _ false true (four_plain i) refl) (four_not i 2 (omega arith)) refl)
  joined_number_is (suc (suc (suc (suc i)))) (suc zero) =
      ap (numbered names) (chain_is (suc (suc (suc (suc i)))) 1 false false false false (four_not i 1 (omega arith))
      (either _ _ false false (four_plain i) refl) (four_not i 2 (omega arith)) refl) ∙ object_number
  joined_number_is (suc (suc (suc (suc i)))) (suc (suc zero)) =
      ap (numbered names) (chain_is (suc (suc (suc (suc i)))) 2 false false false true (four_not i 2 (omega arith))
      (either _ _ false false (four_plain i) refl) (four_not i 2 (omega arith)) refl)
  joined_number_is (suc (suc (suc (suc i)))) (suc (suc (suc zero))) =
      ap (numbered names) (chain_is (suc (suc (suc (suc i)))) 3 false true false false (four_not i 3 (omega arith))
      (either _ _ false true (four_plain i) refl) (four_not i 2 (omega arith)) refl)
  joined_number_is (suc (suc (suc (suc i)))) (suc (suc (suc (suc j)))) = both_named i j (cases_eq i j)

  pub joined_is : (k l : Kind) → kind_of names (joined k l) ≡ join (kind_of names k) (kind_of names l)
  joined_is k l = joined_number_is k.0 l.0

  pub joined_all_is : (ks ls : List Kind) → kinds_of names (joined_all ks ls) ≡ join_all (kinds_of names ks) (kinds_of names ls)
  joined_all_is [] ls = refl
  joined_all_is (k ∷ ks) [] = refl
  joined_all_is (k ∷ ks) (l ∷ ls) = ap₂ (λ x xs. x ∷ xs) (joined_is k l) (joined_all_is ks ls)

-- Which kinds fit which.

abbrev pub Says : Bool → Type 0 → Type 0
Says b P = (b ≡ true → P) × (P → b ≡ true)

yes_it : {P : Type 0} (b : Bool) → b ≡ true → P → Says b P
yes_it b e p = (λ f. p, λ q. e)

no_it : {P : Type 0} (b : Bool) → b ≡ false → (P → ⊥) → Says b P
no_it b e n = (λ f. absurd (cc (e, f)), λ p. absurd (n p))

abbrev fits_chain : (a b c : Bool) → Bool
fits_chain a b c = if a then true else if b then false else c

fits_chain_is : (k l : ℕ) (a b c : Bool) → (nat_eq k l || nat_eq l 3) ≡ a → (is_plain k || is_plain l) ≡ b → (nat_eq k 2 || nat_eq l 4) ≡ c
    →
    fits_number k l ≡ fits_chain a b c
fits_chain_is k l a b c e f g = rw (e, f, g) refl

module _ (names : List Name) (n : AreNames names) where
  text_fits : (j : ℕ) → (j ≡ 0) ⊎ (j ≡ 0 → ⊥) → Says (fits_number 1 (suc (suc (suc (suc j))))) (name_at names j ≡ object)
  text_fits j (inl e) =
      let four : suc (suc (suc (suc j))) ≡ 4 = omega (arith, e) in
      yes_it (fits_number 1 (suc (suc (suc (suc j)))))
      (fits_chain_is 1 (suc (suc (suc (suc j)))) false false true (either _ _ false false (not_four j 1 (omega arith))
      (four_not j 3 (omega arith)))
      (four_plain j) (equal_is (suc (suc (suc (suc j)))) 4 four))
      (ap (name_at names) e ∙ first_name names n)
  text_fits j (inr ne) =
      no_it (fits_number 1 (suc (suc (suc (suc j)))))
      (fits_chain_is 1 (suc (suc (suc (suc j)))) false false false (either _ _ false false (not_four j 1 (omega arith))
      (four_not j 3 (omega arith)))
      (four_plain j) (equal_not (suc (suc (suc (suc j)))) 4 (λ h. ne (omega (arith, h)))))
      (λ f. names_differ names n j 0 ne (f ∙ sym (first_name names n)))

  objects_fit : (i j : ℕ) → (i ≡ j) ⊎ (i ≡ j → ⊥) → (j ≡ 0) ⊎ (j ≡ 0 → ⊥) →
      Says (fits_number (suc (suc (suc (suc i)))) (suc (suc (suc (suc j))))) ((name_at names i ≡ name_at names j)
      ⊎ (name_at names j ≡ object))
  objects_fit i j (inl e) o =
      let same : suc (suc (suc (suc i))) ≡ suc (suc (suc (suc j))) = omega (arith, e) in
      yes_it (fits_number (suc (suc (suc (suc i)))) (suc (suc (suc (suc j)))))
      (fits_chain_is (suc (suc (suc (suc i)))) (suc (suc (suc (suc j)))) true false
      (nat_eq (suc (suc (suc (suc i)))) 2 || nat_eq (suc (suc (suc (suc j)))) 4)
      (either _ _ true false (equal_is (suc (suc (suc (suc i)))) (suc (suc (suc (suc j)))) same) (four_not j 3 (omega arith)))
      (either _ _ false false (four_plain i) (four_plain j)) refl)
      (inl (ap (name_at names) e))
  objects_fit i j (inr ne) (inl e) =
      let four : suc (suc (suc (suc j))) ≡ 4 = omega (arith, e) in
      yes_it (fits_number (suc (suc (suc (suc i)))) (suc (suc (suc (suc j)))))
      (fits_chain_is (suc (suc (suc (suc i)))) (suc (suc (suc (suc j)))) false false true
      (either _ _ false false (equal_not (suc (suc (suc (suc i)))) (suc (suc (suc (suc j)))) (λ h. ne (omega (arith, h))))
      (four_not j 3 (omega arith)))
      (either _ _ false false (four_plain i) (four_plain j))
      (either _ _ false true (four_not i 2 (omega arith)) (equal_is (suc (suc (suc (suc j)))) 4 four)))
      (inr (ap (name_at names) e ∙ first_name names n))
  objects_fit i j (inr ne) (inr off) =
      no_it (fits_number (suc (suc (suc (suc i)))) (suc (suc (suc (suc j)))))
      (fits_chain_is (suc (suc (suc (suc i)))) (suc (suc (suc (suc j)))) false false false
      (either _ _ false false (equal_not (suc (suc (suc (suc i)))) (suc (suc (suc (suc j)))) (λ h. ne (omega (arith, h))))
      (four_not j 3 (omega arith)))
      (either _ _ false false (four_plain i) (four_plain j))
      (either _ _ false false (four_not i 2 (omega arith)) (equal_not (suc (suc (suc (suc j)))) 4 (λ h. off (omega (arith, h))))))
      neither
    where
      neither : (name_at names i ≡ name_at names j) ⊎ (name_at names j ≡ object) → ⊥
      neither (inl e) = names_differ names n i j ne e
      neither (inr e) = names_differ names n j 0 off (e ∙ sym (first_name names n))

  pub fits_number_is : (k l : ℕ) → Says (fits_number k l) (Fits (numbered names k) (numbered names l))
  fits_number_is zero zero = yes_it (fits_number 0 0) refl tt
  fits_number_is zero (suc zero) = no_it (fits_number 0 1) refl (λ f. f)
  fits_number_is zero (suc (suc zero)) = no_it (fits_number 0 2) refl (λ f. f)
  fits_number_is zero (suc (suc (suc zero))) = yes_it (fits_number 0 3) refl tt
  fits_number_is (suc zero) zero = no_it (fits_number 1 0) refl (λ f. f)
  fits_number_is (suc zero) (suc zero) = yes_it (fits_number 1 1) refl tt
  fits_number_is (suc zero) (suc (suc zero)) = no_it (fits_number 1 2) refl (λ f. f)
  fits_number_is (suc zero) (suc (suc (suc zero))) = yes_it (fits_number 1 3) refl tt
  fits_number_is (suc (suc zero)) zero = no_it (fits_number 2 0) refl (λ f. f)
  fits_number_is (suc (suc zero)) (suc zero) = yes_it (fits_number 2 1) refl tt
  fits_number_is (suc (suc zero)) (suc (suc zero)) = yes_it (fits_number 2 2) refl tt
  fits_number_is (suc (suc zero)) (suc (suc (suc zero))) = yes_it (fits_number 2 3) refl tt
  fits_number_is (suc (suc (suc zero))) zero = no_it (fits_number 3 0) refl (λ f. f)
  fits_number_is (suc (suc (suc zero))) (suc zero) = no_it (fits_number 3 1) refl (λ f. f)
  fits_number_is (suc (suc (suc zero))) (suc (suc zero)) = no_it (fits_number 3 2) refl (λ f. f)
  fits_number_is (suc (suc (suc zero))) (suc (suc (suc zero))) = yes_it (fits_number 3 3) refl tt
  fits_number_is zero (suc (suc (suc (suc j)))) =
      no_it (fits_number 0 (suc (suc (suc (suc j))))) (fits_chain_is 0 (suc (suc (suc (suc j)))) false true
      (nat_eq 0 2 || nat_eq (suc (suc (suc (suc j)))) 4)
      (either _ _ false false (not_four j 0 (omega arith)) (four_not j 3 (omega arith))) refl refl) (λ f. f)
  fits_number_is (suc (suc (suc zero))) (suc (suc (suc (suc j)))) =
      no_it (fits_number 3 (suc (suc (suc (suc j))))) (fits_chain_is 3 (suc (suc (suc (suc j)))) false true
      (nat_eq 3 2 || nat_eq (suc (suc (suc (suc j)))) 4)
      (either _ _ false false (not_four j 3 (omega arith)) (four_not j 3 (omega arith))) refl refl) (λ f. f)
  fits_number_is (suc zero) (suc (suc (suc (suc j)))) = text_fits j (cases_eq j 0)
  fits_number_is (suc (suc zero)) (suc (suc (suc (suc j)))) =
      yes_it (fits_number 2 (suc (suc (suc (suc j))))) (fits_chain_is 2 (suc (suc (suc (suc j)))) false false true
      (either _ _ false false (not_four j 2 (omega arith)) (four_not j 3 (omega arith))) (four_plain j) refl) tt
  fits_number_is (suc (suc (suc (suc i)))) zero =
      no_it (fits_number (suc (suc (suc (suc i)))) 0) (fits_chain_is (suc (suc (suc (suc i)))) 0 false true
      (nat_eq (suc (suc (suc (suc i)))) 2 || nat_eq 0 4)
      (either _ _ false false (four_not i 0 (omega arith)) refl) (either _ _ false true (four_plain i) refl) refl) (λ f. f)
  fits_number_is (suc (suc (suc (suc i)))) (suc zero) =
      no_it (fits_number (suc (suc (suc (suc i)))) 1) (fits_chain_is (suc (suc (suc (suc i)))) 1 false false false
      (either _ _ false false (four_not i 1 (omega arith)) refl) (either _ _ false false (four_plain i) refl)
      (either _ _ false false (four_not i 2 (omega arith)) refl)) (λ f. f)
  fits_number_is (suc (suc (suc (suc i)))) (suc (suc zero)) =
      no_it (fits_number (suc (suc (suc (suc i)))) 2) (fits_chain_is (suc (suc (suc (suc i)))) 2 false false false
      (either _ _ false false (four_not i 2 (omega arith)) refl) (either _ _ false false (four_plain i) refl)
      (either _ _ false false (four_not i 2 (omega arith)) refl)) (λ f. f)
  fits_number_is (suc (suc (suc (suc i)))) (suc (suc (suc zero))) =
      yes_it (fits_number (suc (suc (suc (suc i)))) 3) (fits_chain_is (suc (suc (suc (suc i)))) 3 true true
      (nat_eq (suc (suc (suc (suc i)))) 2 || nat_eq 3 4)
      (either _ _ false true (four_not i 3 (omega arith)) refl) (either _ _ false true (four_plain i) refl) refl) tt
  fits_number_is (suc (suc (suc (suc i)))) (suc (suc (suc (suc j)))) = objects_fit i j (cases_eq i j) (cases_eq j 0)

  pub fits_in_is : (k l : Kind) → Says (fits_in k l) (Fits (kind_of names k) (kind_of names l))
  fits_in_is k l = fits_number_is k.0 l.0
