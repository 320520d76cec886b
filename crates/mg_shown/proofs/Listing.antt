-- Calls that stand in the text by file and place are listed as they are.
use Rattle.std.proofs.Common.{◌≡◌, ℕ, zero, suc, ◌+◌, ◌<◌, Bool, true, false, not, ◌&&◌, List, [], ◌∷◌, length, refl, sym, subst, arith, add-one}
use Rattle.std.specs.Prelude.{slice_index_or}
use Rattle.jv_core.specs.Tree.{Program}
use Rattle.use_sights.specs.declared.site.Site.{Site}
use Rattle.use_sights.specs.Calls.{all_sites}
use Rattle.mg_shown.specs.Shown.{is_listed_before, AreListed}

-- no call stands before the one ahead of it
abbrev pub rises : List Site → Bool
rises [] = true
rises (x ∷ []) = true
rises (x ∷ y ∷ ys) = not (is_listed_before y x) && rises (y ∷ ys)

left : (a b : Bool) → (not a && b) ≡ true → a ≡ false
left true b h = absurd (cc)
left false b h = refl

right : (a b : Bool) → (not a && b) ≡ true → b ≡ true
right true b h = absurd (cc)
right false b h = h

in_turn : (xs : List Site) → rises xs ≡ true → (k : ℕ) (d : Site) → suc k < length xs →
    is_listed_before (slice_index_or xs (suc k) d) (slice_index_or xs k d) ≡ false
in_turn [] h k d lt = absurd (omega arith)
in_turn (x ∷ []) h k d lt = absurd (omega arith)
in_turn (x ∷ y ∷ ys) h zero d lt = left (is_listed_before y x) (rises (y ∷ ys)) h
in_turn (x ∷ y ∷ ys) h (suc k) d lt = in_turn (y ∷ ys) (right (is_listed_before y x) (rises (y ∷ ys)) h) k d (omega arith)

pub as_they_stand : (p : Program) → rises (all_sites p) ≡ true → AreListed p (all_sites p)
as_they_stand p h = record {
  all = record { moves = []; below = tt; is = refl };
  sorted = λ k d low lt.
      let same : k + 1 ≡ suc k = add-one k in
      subst (λ n. is_listed_before (slice_index_or (all_sites p) n d) (slice_index_or (all_sites p) k d) ≡ false) (sym same)
      (in_turn (all_sites p) h k d (subst (λ n. n < length (all_sites p)) same lt));
  stable = λ x. refl;
}
