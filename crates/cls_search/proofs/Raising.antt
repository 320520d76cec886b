-- Where kinds by numbers are raised the kinds are that they stand for, and where they aren't they stay.
use Rattle.std.proofs.Common.{◌≡◌, ℕ, zero, suc, ◌*◌, ◌≤◌, ◌⊎◌, inl, inr, Bool, true, false, not, ◌||◌, List, [], ◌∷◌, length, refl, sym}
use Rattle.std.proofs.Common.{ap, ap₂, ◌∙◌, arith}
use Rattle.std.specs.Prelude.{nat_eq}
use Rattle.std.proofs.lemmas.Bool.{cases_eq}
use Rattle.mg_text.specs.Call.{Name}
use Rattle.cls_verify.specs.Joins.{join_all}
use Rattle.cls_kinds.specs.declared.kind.Kind.{Kind}
use Rattle.cls_kinds.specs.Numbers.{joined, joined_number, joined_all, is_raised, room_of, room_in}
use Rattle.cls_kinds.specs.Named.{AreNames, name_at, numbered, kind_of, kinds_of}
use Rattle.cls_kinds.proofs.Naming.{names_differ, joined_all_is}
use Rattle.cls_kinds.proofs.Joining.{raised_not, equal_is}

module _ (names : List Name) (n : AreNames names) where
  -- a kind has one number
  one_number : (k l : ℕ) → numbered names k ≡ numbered names l → k ≡ l
  one_number zero zero e = refl
  one_number (suc zero) (suc zero) e = refl
  one_number (suc (suc zero)) (suc (suc zero)) e = refl
  one_number (suc (suc (suc zero))) (suc (suc (suc zero))) e = refl
  one_number (suc (suc (suc (suc i)))) (suc (suc (suc (suc j)))) e =
      by (cases_eq i j)
    where
      by : (i ≡ j) ⊎ (i ≡ j → ⊥) → suc (suc (suc (suc i))) ≡ suc (suc (suc (suc j)))
      by (inl h) = omega (arith, h)
      by (inr ne) = absurd (names_differ names n i j ne (let same : name_at names i ≡ name_at names j = cc e in same))
  one_number zero (suc zero) e = absurd (cc e)
  one_number zero (suc (suc zero)) e = absurd (cc e)
  one_number zero (suc (suc (suc zero))) e = absurd (cc e)
  one_number zero (suc (suc (suc (suc j)))) e = absurd (cc e)
  one_number (suc zero) zero e = absurd (cc e)
  one_number (suc zero) (suc (suc zero)) e = absurd (cc e)
  one_number (suc zero) (suc (suc (suc zero))) e = absurd (cc e)
  one_number (suc zero) (suc (suc (suc (suc j)))) e = absurd (cc e)
  one_number (suc (suc zero)) zero e = absurd (cc e)
  one_number (suc (suc zero)) (suc zero) e = absurd (cc e)
  one_number (suc (suc zero)) (suc (suc (suc zero))) e = absurd (cc e)
  one_number (suc (suc zero)) (suc (suc (suc (suc j)))) e = absurd (cc e)
  one_number (suc (suc (suc zero))) zero e = absurd (cc e)
  one_number (suc (suc (suc zero))) (suc zero) e = absurd (cc e)
  one_number (suc (suc (suc zero))) (suc (suc zero)) e = absurd (cc e)
  one_number (suc (suc (suc zero))) (suc (suc (suc (suc j)))) e = absurd (cc e)
  one_number (suc (suc (suc (suc i)))) zero e = absurd (cc e)
  one_number (suc (suc (suc (suc i)))) (suc zero) e = absurd (cc e)
  one_number (suc (suc (suc (suc i)))) (suc (suc zero)) e = absurd (cc e)
  one_number (suc (suc (suc (suc i)))) (suc (suc (suc zero))) e = absurd (cc e)

  one_list : (ks ls : List Kind) → kinds_of names ks ≡ kinds_of names ls → ks ≡ ls
  one_list [] [] e = refl
  one_list [] (l ∷ ls) e = absurd (let h = ap length e in omega (arith, h))
  one_list (k ∷ ks) [] e = absurd (let h = ap length e in omega (arith, h))
  one_list (k ∷ ks) (l ∷ ls) e =
      let heads : kind_of names k ≡ kind_of names l = cc e in
      let tails : kinds_of names ks ≡ kinds_of names ls = cc e in
      ap₂ (λ x xs. x ∷ xs) (ap (λ j. record { 0 = j }) (one_number k.0 l.0 heads)) (one_list ks ls tails)

  -- what isn't raised stays, in kinds too
  pub stays_in_kinds : (ks ls : List Kind) → length ks ≡ length ls → is_raised ks ls ≡ false →
      join_all (kinds_of names ks) (kinds_of names ls) ≡ kinds_of names ks
  stays_in_kinds ks ls many e = sym (joined_all_is names n ks ls) ∙ ap (kinds_of names) (raised_not ks ls many e)

  -- what stays in kinds isn't raised
  pub raised_in_kinds : (ks ls : List Kind) → is_raised ks ls ≡ true → join_all (kinds_of names ks) (kinds_of names ls) ≡ kinds_of names ks
      → ⊥
  raised_in_kinds ks ls e same = differs ks ls e (one_list (joined_all ks ls) ks (joined_all_is names n ks ls ∙ same))
    where
      differs : (xs ys : List Kind) → is_raised xs ys ≡ true → joined_all xs ys ≡ xs → ⊥
      differs [] ys f g = absurd (cc f)
      differs (x ∷ xs) [] f g = absurd (cc f)
      differs (x ∷ xs) (y ∷ ys) f g =
          let head : joined x y ≡ x = cc g in
          let tails : joined_all xs ys ≡ xs = cc g in
          let same : nat_eq (joined_number x.0 y.0) x.0 ≡ true = equal_is (joined_number x.0 y.0) x.0 (ap (λ (k : Kind). k.0) head) in
          differs xs ys (sym (ap (λ b. not b || is_raised xs ys) same) ∙ f) tails

-- a kind is raised three times at most
room_three : (k : ℕ) → room_of k ≤ 3
room_three k = go (nat_eq k 3) (nat_eq k 0 || nat_eq k 4) (nat_eq k 2)
  where
    go : (a b c : Bool) → room_of k ≤ 3
    go a b c = grind arith

pub room_most : (ks : List Kind) → room_in ks ≤ 3 * length ks
room_most [] = omega arith
room_most (k ∷ ks) = let h = room_three k.0 in let r = room_most ks in omega (arith, h, r)
