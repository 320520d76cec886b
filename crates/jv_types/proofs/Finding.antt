-- What is found by its name in a table.
use Rattle.std.proofs.Common.{◌≡◌, ℕ, zero, suc, ◌<◌, List, [], ◌∷◌, map, length, get_or, Option, Some, None, Bool, true, false, ◌||◌, cond}
use Rattle.std.proofs.Common.{refl, sym, ap, ◌∙◌, true≢false, arith, position, nat_lt}
use Rattle.std.specs.List.{find, list_any, position_or_len}
use Rattle.std.specs.Option.{is_some, option_map}
use Rattle.std.specs.Str.{bytes_eq}
use Rattle.std.proofs.lemmas.Bool.Decides.{same_from_decides}
use Rattle.std.proofs.lemmas.List.Quantifiers.{position-Some}
use Rattle.std.proofs.lemmas.Slice.Eq.{bytes_eq-Decides}
use Rattle.std.proofs.Math.ListN.{length-map}
use Rattle.mg_text.specs.Call.{Name}
use Rattle.mg_text.proofs.Numbered.{list_any-from_None, list_any-position}

pub bytes_eq_flip : (a b : Name) → bytes_eq a b ≡ bytes_eq b a
bytes_eq_flip a b =
    same_from_decides (bytes_eq a b) (bytes_eq b a) (bytes_eq-Decides a b) (
      (λ e. sym ((bytes_eq-Decides b a).0 e)),
      (λ e. (bytes_eq-Decides b a).1 (sym e)),
    )

module _ {X Y : Type 0} (name : Name) (key : X → Name) (view : X → Y) (key' : Y → Name) (agree : (x : X) → key' (view x) ≡ key x) where
  hit : (x : X) (b : Bool) → bytes_eq name (key x) ≡ b → bytes_eq (key' (view x)) name ≡ b
  hit x b e = ap (λ n. bytes_eq n name) (agree x) ∙ bytes_eq_flip (key x) name ∙ e

  pub first_hit : (xs : List X) (i : ℕ) (x : X) → i < length xs → bytes_eq name (get_or (map key xs) i []) ≡ true →
      ((k : ℕ) → k < i → bytes_eq name (get_or (map key xs) k []) ≡ false) → x ≡ get_or xs i x →
      Some (view x) ≡ find (λ y. bytes_eq (key' y) name) (map view xs)
  first_hit [] i x within at before is = let no : ⊥ = omega arith in absurd no
  first_hit (y ∷ xs) zero x within at before is =
      ap (λ z. Some (view z)) is ∙ sym (ap (λ b. cond b (Some (view y)) (find (λ z. bytes_eq (key' z) name) (map view xs))) (hit y true at))
  first_hit (y ∷ xs) (suc i) x within at before is =
      first_hit xs i x (omega arith) at (λ k h. before (suc k) (omega arith)) is
      ∙ sym (ap (λ b. cond b (Some (view y)) (find (λ z. bytes_eq (key' z) name) (map view xs))) (hit y false (before zero (omega arith))))

  pub found_within : (xs : List X) (i : ℕ) → position (bytes_eq name) (map key xs) ≡ Some i → i < length xs
  found_within xs i e = let h = (position-Some (bytes_eq name) (map key xs) i [] e).0 in let n = length-map xs key in omega arith

  -- the one at the first place of the name is found
  pub found_at : (xs ys : List X) → ys ≡ xs → (i : ℕ) (x : X) → position (bytes_eq name) (map key xs) ≡ Some i → x ≡ get_or ys i x →
      Some (view x) ≡ find (λ y. bytes_eq (key' y) name) (map view xs)
  found_at xs ys same i x e is =
      let h = position-Some (bytes_eq name) (map key xs) i [] e in first_hit xs i x (found_within xs i e) h.1 h.2
      (is ∙ ap (λ zs. get_or zs i x) same)

  none_hit : (xs : List X) → list_any (bytes_eq name) (map key xs) ≡ false → None ≡ find (λ y. bytes_eq (key' y) name) (map view xs)
  none_hit [] e = refl
  none_hit (y ∷ xs) e = go (bytes_eq name (key y)) refl e (none_hit xs)
    where
      go : (b : Bool) → bytes_eq name (key y) ≡ b → (b || list_any (bytes_eq name) (map key xs)) ≡ false →
          (list_any (bytes_eq name) (map key xs) ≡ false → None ≡ find (λ z. bytes_eq (key' z) name) (map view xs)) →
          None ≡ find (λ z. bytes_eq (key' z) name) (map view (y ∷ xs))
      go true h e rest = absurd (true≢false e)
      go false h e rest = rest e ∙ sym (ap (λ b. cond b (Some (view y)) (find (λ z. bytes_eq (key' z) name) (map view xs))) (hit y false h))

  -- there is none
  pub found_none : (xs : List X) → position (bytes_eq name) (map key xs) ≡ None → None ≡ find (λ y. bytes_eq (key' y) name) (map view xs)
  found_none xs e = none_hit xs (list_any-from_None (bytes_eq name) (map key xs) e)

pub ruleset found = (found_at, found_within, found_none)

some_or_none : {X : Type 0} (f : X → ℕ) (o : Option X) (r : Option ℕ) → option_map f o ≡ r → is_some o ≡ is_some r
some_or_none f None r e = ap is_some e
some_or_none f (Some x) r e = ap is_some e

pub any_at : (name : Name) (names : List Name) → is_some (position (bytes_eq name) names) ≡ list_any (bytes_eq name) names
any_at name names = go (list_any (bytes_eq name) names) (list_any-position (bytes_eq name) names)
  where
    go : (b : Bool) → b ≡ nat_lt (position_or_len (bytes_eq name) names) (length names) →
        is_some (cond (nat_lt (position_or_len (bytes_eq name) names) (length names)) (Some (position_or_len (bytes_eq name) names)) None) ≡
        b
    go true e = ap (λ t. is_some (cond t (Some (position_or_len (bytes_eq name) names)) None)) (sym e)
    go false e = ap (λ t. is_some (cond t (Some (position_or_len (bytes_eq name) names)) None)) (sym e)

-- whether a name is in a table
pub any_found : {X : Type 0} (f : X → ℕ) (name : Name) (names : List Name) (o : Option X) (r : Bool) →
    option_map f o ≡ position (bytes_eq name) names → r ≡ is_some o → r ≡ list_any (bytes_eq name) names
any_found f name names o r e s = s ∙ some_or_none f o (position (bytes_eq name) names) e ∙ any_at name names
