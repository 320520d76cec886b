-- Texts with something between two: the first, and then each other behind what separates it.
use Rattle.std.proofs.Common.{◌≡◌, ℕ, Bool, ◌-◌, ◌≤◌, List, [], ◌∷◌, ◌++◌, length, get_or, drop, take, map, codes, refl, sym, ap, ◌∙◌}
use Rattle.std.proofs.Common.{append_assoc, arith}
use Rattle.std.specs.List.{flat_map}
use Rattle.std.proofs.lemmas.Grind.{flat_map-append}
use Rattle.std.proofs.lemmas.List.{append-nil, take_all}
use Rattle.ts_tree.specs.Typestate.{Method, State}
use Rattle.ts_read.specs.Layout.{listed, line_feed, method_text, drop_line, entry_lines, lines}
use Rattle.ts_read.specs.inner.Printing.{behind}

module _ {X : Type 0} (f : X → List ℕ) where
  -- each text behind a comma and a space
  abbrev pub behind_commas : List X → List ℕ
  behind_commas = flat_map (λ x. codes ", " ++ f x)

  -- the first text, and then the others
  listed-cons : (x : X) (xs : List X) → listed (map f (x ∷ xs)) ≡ f x ++ behind_commas xs
  listed-cons x [] = sym (append-nil (f x))
  listed-cons x (y ∷ ys) = append_assoc (f x) (codes ", ") (listed (map f (y ∷ ys))) ∙ ap (λ t. f x ++ (codes ", " ++ t)) (listed-cons y ys)

  -- the same where the others are cut off
  pub listed_first : (xs : List X) (x : X) → 1 ≤ length xs → x ≡ get_or xs 0 x
      → listed (map f xs) ≡ f x ++ behind_commas (take (length xs - 1) (drop 1 xs))
  listed_first [] x h is = absurd (omega arith)
  listed_first (y ∷ ys) x h is =
      listed-cons y ys
      ∙ ap (λ (z : X). f z ++ behind_commas ys) (sym is)
      ∙ ap (λ (zs : List X). f x ++ behind_commas zs) (sym (take_all (length (y ∷ ys) - 1) ys (omega arith)))

  -- what a loop over the others has written at its end
  pub listed_done : (xs : List X) (x : X) (i : ℕ) (old first now : List ℕ) → 1 ≤ length xs → x ≡ get_or xs 0 x
      → length (take (length xs - 1) (drop 1 xs)) ≤ i → first ≡ old ++ f x
      → now ≡ first ++ behind_commas (take i (take (length xs - 1) (drop 1 xs))) → now ≡ old ++ listed (map f xs)
  listed_done xs x i old first now h is all begun done =
      done
      ∙ ap (λ (zs : List X). first ++ behind_commas zs) (take_all i _ all)
      ∙ ap (λ t. t ++ behind_commas (take (length xs - 1) (drop 1 xs))) begun
      ∙ append_assoc old (f x) _
      ∙ ap (λ t. old ++ t) (sym (listed_first xs x h is))

-- the first text, the others, and the end of the last line
lines-cons : (t : List ℕ) (ts : List (List ℕ)) → lines (t ∷ ts) ≡ t ++ (behind ts ++ line_feed)
lines-cons t [] = refl
lines-cons t (u ∷ us) =
    append_assoc (t ++ codes ",") line_feed (lines (u ∷ us))
    ∙ append_assoc t (codes ",") (line_feed ++ lines (u ∷ us))
    ∙ ap (λ r. t ++ (codes ",\n" ++ r)) (lines-cons u us ∙ sym (append_assoc u (behind us) line_feed))

module _ {X : Type 0} (states : List State) (v : X → Method) where
  -- each method on a line of its own, behind a comma
  abbrev pub behind_lines : List X → List ℕ
  behind_lines = flat_map (λ x. codes ",\n" ++ method_text states (v x))

  behind_methods : (xs : List X) → behind (map (method_text states) (map v xs)) ≡ behind_lines xs
  behind_methods [] = refl
  behind_methods (x ∷ xs) = ap (λ r. codes ",\n" ++ method_text states (v x) ++ r) (behind_methods xs)

  -- a method, the others, what stands behind them, and the end of the last line
  entries-cons : (x : X) (xs : List X) (drops : Bool)
      → lines (entry_lines states (map v (x ∷ xs)) drops)
      ≡ method_text states (v x) ++ ((behind_lines xs ++ behind (drop_line drops)) ++ line_feed)
  entries-cons x xs drops =
      lines-cons (method_text states (v x)) (map (method_text states) (map v xs) ++ drop_line drops)
      ∙ ap (λ r. method_text states (v x) ++ (r ++ line_feed))
      (flat_map-append (λ t. codes ",\n" ++ t) (map (method_text states) (map v xs)) (drop_line drops)
      ∙ ap (λ r. r ++ behind (drop_line drops)) (behind_methods xs))

  -- what a loop over the others has written at its end, and what stands behind them, but for the end of the last line
  pub entries_done : (xs : List X) (x : X) (i : ℕ) (drops : Bool) (old first now last : List ℕ) → 1 ≤ length xs → x ≡ get_or xs 0 x
      → length (take (length xs - 1) (drop 1 xs)) ≤ i → first ≡ old ++ method_text states (v x)
      → now ≡ first ++ behind_lines (take i (take (length xs - 1) (drop 1 xs))) → last ≡ now ++ behind (drop_line drops)
      → last ++ line_feed ≡ old ++ lines (entry_lines states (map v xs) drops)
  entries_done [] x i drops old first now last h is all begun done ends = absurd (omega arith)
  entries_done (y ∷ ys) x i drops old first now last h is all begun done ends =
      let D = behind (drop_line drops) in
      let M = method_text states (v x) in
      let L = behind_lines ys in
      let rest : take (length (y ∷ ys) - 1) ys ≡ ys = take_all (length (y ∷ ys) - 1) ys (omega arith) in
      let so_far : now ≡ (old ++ M) ++ L = done ∙ ap (λ (zs : List X). first ++ behind_lines zs) (take_all i _ all ∙ rest) ∙
      ap (λ t. t ++ L) begun in
      ap (λ t. t ++ line_feed) (ends ∙ ap (λ t. t ++ D) so_far ∙ append_assoc (old ++ M) L D ∙ append_assoc old M (L ++ D))
      ∙ append_assoc old (M ++ (L ++ D)) line_feed
      ∙ ap (λ t. old ++ t) (append_assoc M (L ++ D) line_feed
      ∙ ap (λ (z : X). method_text states (v z) ++ ((L ++ D) ++ line_feed)) is ∙ sym (entries-cons y ys drops))
