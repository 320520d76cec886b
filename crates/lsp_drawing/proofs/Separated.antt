-- Texts with something between two: the first, and then each other behind what separates it.
use Rattle.std.proofs.Common.{◌≡◌, ℕ, ◌-◌, ◌≤◌, List, [], ◌∷◌, ◌++◌, length, get_or, drop, take, map, codes, sym, ap, ◌∙◌}
use Rattle.std.proofs.Common.{append_assoc, arith}
use Rattle.std.specs.List.{flat_map}
use Rattle.std.proofs.lemmas.List.{append-nil, take_all}
use Rattle.ts_read.specs.Layout.{listed}

module _ {X : Type 0} (f : X → List ℕ) where
  -- each text behind a comma and a space
  abbrev pub behind_commas : List X → List ℕ
  behind_commas = flat_map (λ x. codes ", " ++ f x)

  -- the first text, and then the others
  listed-cons : (x : X) (xs : List X) → listed (map f (x ∷ xs)) ≡ f x ++ behind_commas xs
  listed-cons x [] = sym (append-nil (f x))
  listed-cons x (y ∷ ys) = append_assoc (f x) (codes ", ") (listed (map f (y ∷ ys))) ∙ ap (λ t. f x ++ (codes ", " ++ t)) (listed-cons y ys)

  -- the same where the others are cut off
  listed_first : (xs : List X) (x : X) → 1 ≤ length xs → x ≡ get_or xs 0 x
      → listed (map f xs) ≡ f x ++ behind_commas (take (length xs - 1) (drop 1 xs))
  listed_first [] x h is = absurd (omega arith)
  listed_first (y ∷ ys) x h is =
      listed-cons y ys
      ∙ ap (λ (z : X). f z ++ behind_commas ys) (sym is)
      ∙ ap (λ (zs : List X). f x ++ behind_commas zs) (sym (take_all (length (y ∷ ys) - 1) ys (omega arith)))

  -- what a loop over the others has written at its end
  pub listed_done : (xs : List X) (x : X) (i : ℕ) (old first now : List ℕ) → 1 ≤ length xs → x ≡ get_or xs 0 x
      → length (take (length xs - 1) (drop 1 xs)) ≤ i → first ≡ old ++ f x
      → now ≡ first ++ behind_commas (take i (take (length xs - 1) (drop 1 xs))) → now ≡ old ++ listed (map f xs)
  listed_done xs x i old first now h is all begun done =
      done
      ∙ ap (λ (zs : List X). first ++ behind_commas zs) (take_all i _ all)
      ∙ ap (λ t. t ++ behind_commas (take (length xs - 1) (drop 1 xs))) begun
      ∙ append_assoc old (f x) _
      ∙ ap (λ t. old ++ t) (sym (listed_first xs x h is))
