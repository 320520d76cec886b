-- What is appended part by part, and what a list gives, item by item.
use Rattle.std.proofs.Common.{◌≡◌, ℕ, zero, suc, ◌+◌, ◌<◌, ◌≤◌, List, [], ◌∷◌, ◌++◌, length, get_or, drop, flat_map, refl, sym, ap, ◌∙◌, append_assoc, arith}
use Rattle.std.proofs.lemmas.List.{at_drop_more, at_drop_all, append-nil}

behind : {A : Type 0} (out more end first rest : List A) → more ≡ out ++ first → end ≡ more ++ rest → end ≡ out ++ (first ++ rest)
behind out more end first rest e h = h ∙ ap (λ xs. xs ++ rest) e ∙ append_assoc out first rest

-- nine parts, one behind another
module _ {A : Type 0} (out m₁ m₂ m₃ m₄ m₅ m₆ m₇ m₈ end a b c d e f g h i : List A) where
  pub nine_put : m₁ ≡ out ++ a → m₂ ≡ m₁ ++ b → m₃ ≡ m₂ ++ c → m₄ ≡ m₃ ++ d → m₅ ≡ m₄ ++ e → m₆ ≡ m₅ ++ f → m₇ ≡ m₆ ++ g → m₈ ≡ m₇ ++ h →
      end ≡ m₈ ++ i → end ≡ out ++ (a ++ (b ++ (c ++ (d ++ (e ++ (f ++ (g ++ (h ++ i))))))))
  nine_put one two three four five six seven eight nine =
      behind out m₁ end a (b ++ (c ++ (d ++ (e ++ (f ++ (g ++ (h ++ i))))))) one
      (behind m₁ m₂ end b (c ++ (d ++ (e ++ (f ++ (g ++ (h ++ i)))))) two
      (behind m₂ m₃ end c (d ++ (e ++ (f ++ (g ++ (h ++ i))))) three
      (behind m₃ m₄ end d (e ++ (f ++ (g ++ (h ++ i)))) four
      (behind m₄ m₅ end e (f ++ (g ++ (h ++ i))) five
      (behind m₅ m₆ end f (g ++ (h ++ i)) six
      (behind m₆ m₇ end g (h ++ i) seven
      (behind m₇ m₈ end h i eight nine)))))))

same_at : {X : Type 0} (xs : List X) (i : ℕ) (d e : X) → i < length xs → get_or xs i d ≡ get_or xs i e
same_at [] i d e lt = absurd (omega arith)
same_at (x ∷ xs) zero d e lt = refl
same_at (x ∷ xs) (suc i) d e lt = same_at xs i d e (omega arith)

module _ {X A : Type 0} (f : X → List A) (xs : List X) (i : ℕ) (out : List A) where
  put_more : (x : X) (new total : List A) → i < length xs → x ≡ get_or xs i x → new ≡ out ++ f x → out ++ flat_map f (drop i xs) ≡ total
      → new ++ flat_map f (drop (i + 1) xs) ≡ total
  put_more x new total lt at e h =
      ap (λ r. r ++ flat_map f (drop (i + 1) xs)) e ∙ append_assoc out (f x) (flat_map f (drop (i + 1) xs))
      ∙ ap (λ r. out ++ r) (sym (at_drop_more (flat_map f) xs i x lt ∙ ap (λ (y : X). f y ++ flat_map f (drop (i + 1) xs)) (sym at))) ∙ h

  pub put_at : (d : X) (new total : List A) → i < length xs → new ≡ out ++ f (get_or xs i d) → out ++ flat_map f (drop i xs) ≡ total →
      new ++ flat_map f (drop (i + 1) xs) ≡ total
  put_at d new total lt e h = put_more (get_or xs i d) new total lt (same_at xs i d (get_or xs i d) lt) e h

  pub put_all : (total : List A) → length xs ≤ i → out ++ flat_map f (drop i xs) ≡ total → out ≡ total
  put_all total past h = sym (append-nil out) ∙ ap (λ r. out ++ r) (sym (at_drop_all (flat_map f) xs i past)) ∙ h
