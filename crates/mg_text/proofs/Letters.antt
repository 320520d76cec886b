-- With which letters words begin that Java reserves, and how long they are.
use Rattle.std.proofs.Common.{◌≡◌, ℕ, ◌-◌, ◌<◌, ◌≤◌, Bool, true, false, IsTrue, ◌↔◌, List, [], ◌∷◌, length, get_or, refl, sym, ap, ◌∙◌, subst, arith}
use Rattle.std.specs.Prelude.{◌||◌, ◌&&◌, nat_eq}
use Rattle.std.specs.Bool.{OnFalse}
use Rattle.std.specs.Int.{bit_at}
use Rattle.std.specs.List.{Contains, list_any, list_all}
use Rattle.std.specs.Str.{bytes_eq}
use Rattle.std.proofs.lemmas.Bool.{ltb-true}
use Rattle.std.proofs.lemmas.Cmp.{nat_list_eq_equiv}
use Rattle.std.proofs.lemmas.List.{get_or_past}
use Rattle.std.proofs.lemmas.Map.Views.{list_any-from_Contains}
use Rattle.std.proofs.lemmas.Nat.Bits.{bit_at-zero}
use Rattle.std.proofs.lemmas.Slice.Eq.{bytes_eq-Decides}
use Rattle.std.proofs.Math.Dec.{ltb}
use Rattle.mg_text.specs.Call.{Name}
use Rattle.mg_text.specs.JavaWords.{java_words}

-- by first letters, from a on: bit n is set where a word of n bytes begins so
abbrev pub lengths : List ℕ
lengths =
    320 ∷ 176 ∷ 304 ∷ 196 ∷ 144 ∷ 168 ∷ 16 ∷ 0 ∷ 1612 ∷ 0 ∷ 0 ∷ 16 ∷ 0 ∷ 88 ∷ 0 ∷ 704 ∷ 0 ∷ 64 ∷ 4448 ∷ 632 ∷ 0 ∷ 272 ∷ 32 ∷ 0 ∷ 0 ∷ 0 ∷ []

abbrev first : Name → ℕ
first w = get_or w 0 0

abbrev bits : Name → ℕ
bits w = get_or lengths (first w - 97) 0

abbrev fits : Name → Bool
fits w = ltb 96 (first w) && (ltb (length w) 13 && nat_eq (bit_at (bits w) (length w)) 1)

all_fit : list_all fits java_words ≡ true
all_fit = refl

false_true : false ≡ true → ⊥
false_true h = cc

and_left : (a b : Bool) → (a && b) ≡ true → a ≡ true
and_left true b h = refl
and_left false b h = absurd (false_true h)

and_right : (a b : Bool) → (a && b) ≡ true → b ≡ true
and_right true b h = h
and_right false b h = absurd (false_true h)

step : (x w : Name) (ws : List Name) (b : Bool) → bytes_eq x w ≡ b → fits w ≡ true → (list_any (bytes_eq x) ws ≡ true → fits x ≡ true) →
    list_any (bytes_eq x) (w ∷ ws) ≡ true → fits x ≡ true
step x w ws true e f rest h = ap fits ((bytes_eq-Decides x w).0 e) ∙ f
step x w ws false e f rest h = rest (sym (ap (λ b. b || list_any (bytes_eq x) ws) e) ∙ h)

fits_in : (x : Name) (ws : List Name) → list_all fits ws ≡ true → list_any (bytes_eq x) ws ≡ true → fits x ≡ true
fits_in x [] a h = absurd (false_true h)
fits_in x (w ∷ ws) a h = step x w ws (bytes_eq x w) refl (and_left (fits w) (list_all fits ws) a)
    (fits_in x ws (and_right (fits w) (list_all fits ws) a)) h

fits_word : (x : Name) → Contains java_words x → fits x ≡ true
fits_word x h = fits_in x java_words all_fit (list_any-from_Contains nat_list_eq_equiv x java_words h)

module _ (x : Name) (h : Contains java_words x) where
  low : ltb 96 (first x) ≡ true
  low = and_left (ltb 96 (first x)) (ltb (length x) 13 && nat_eq (bit_at (bits x) (length x)) 1) (fits_word x h)

  others : (ltb (length x) 13 && nat_eq (bit_at (bits x) (length x)) 1) ≡ true
  others = and_right (ltb 96 (first x)) (ltb (length x) 13 && nat_eq (bit_at (bits x) (length x)) 1) (fits_word x h)

  short : ltb (length x) 13 ≡ true
  short = and_left (ltb (length x) 13) (nat_eq (bit_at (bits x) (length x)) 1) others

  bit : nat_eq (bit_at (bits x) (length x)) 1 ≡ true
  bit = and_right (ltb (length x) 13) (nat_eq (bit_at (bits x) (length x)) 1) others

-- what no word is
pub no_low : (x : Name) → get_or x 0 0 < 97 → Contains java_words x → ⊥
no_low x lt h = let l : 96 < get_or x 0 0 = ltb-true 96 (first x) (low x h) in omega (arith, l, lt)

pub no_empty : (x : Name) → length x ≡ 0 → Contains java_words x → ⊥
no_empty x e h = let z : get_or x 0 0 ≡ 0 = get_or_past x 0 0 (omega (arith, e)) in no_low x (omega (arith, z)) h

pub no_long : (x : Name) → 12 < length x → Contains java_words x → ⊥
no_long x lt h = let s : length x < 13 = ltb-true (length x) 13 (short x h) in omega (arith, s, lt)

pub no_high : (x : Name) → 26 ≤ get_or x 0 0 - 97 → Contains java_words x → ⊥
no_high x le h = false_true (sym (ap (λ v. nat_eq v 1) (bit_at-zero (length x)))
    ∙ ap (λ v. nat_eq (bit_at v (length x)) 1) (sym (get_or_past lengths (get_or x 0 0 - 97) 0 le)) ∙ bit x h)

pub no_bit : (x : Name) (r : Bool) → r ≡ nat_eq (bit_at (get_or lengths (get_or x 0 0 - 97) 0) (length x)) 1 →
    OnFalse r (Contains java_words x → ⊥)
no_bit x true e = tt
no_bit x false e = λ h. false_true (e ∙ bit x h)

-- a text that no word is
pub unlike : (x : Name) (r : Bool) → OnFalse r (Contains java_words x → ⊥) → r ≡ false → IsTrue false ↔ Contains java_words x
unlike x r h e = (λ t. absurd (false_true t), λ c. absurd (subst (λ b. OnFalse b (Contains java_words x → ⊥)) e h c))
