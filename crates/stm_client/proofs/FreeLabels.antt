-- That the label of a loop is free: neither a word that Java reserves nor the label of a loop around.
use Rattle.std.proofs.Common.{◌≡◌, ℕ, zero, suc, ◌+◌, ◌-◌, ◌≤◌, min, Bool, true, false, List, [], ◌∷◌, ◌++◌, map, length, refl, sym, ap, ◌∙◌}
use Rattle.std.proofs.Common.{arith, codes, if◌then◌else◌, length-append}
use Rattle.std.specs.Prelude.{◌||◌, ◌==◌}
use Rattle.std.specs.Char.{to_ascii_lowercase}
use Rattle.std.specs.List.{list_any}
use Rattle.std.specs.Str.{bytes_eq}
use Rattle.std.proofs.lemmas.Bool.{false≢true}
use Rattle.std.proofs.lemmas.Slice.Eq.{bytes_eq-Decides}
use Rattle.mg_text.specs.Call.{Name}
use Rattle.mg_text.specs.JavaWords.{java_words}
use Rattle.stm_client.specs.Client.{Loop, is_taken, free_label, label_for}

no_or : (a b : Bool) → a ≡ false → b ≡ false → (a || b) ≡ false
no_or a b x y = ap (λ c. c || b) x ∙ y

right-or : (a b : Bool) → a ≡ false → (a || b) ≡ true → b ≡ true
right-or a b x y = sym (ap (λ c. c || b) x) ∙ y

both-not : (a b : Bool) → (a || b) ≡ false → (a ≡ false) × (b ≡ false)
both-not true b e = absurd (false≢true (sym e))
both-not false b e = (refl, e)

-- ---- no word that Java reserves ends with `_`

abbrev last_code : Name → ℕ
last_code [] = 0
last_code (c ∷ []) = c
last_code (c ∷ d ∷ cs) = last_code (d ∷ cs)

last-low : (v : Name) → last_code (v ++ codes "_") ≡ 95
last-low [] = refl
last-low (c ∷ []) = refl
last-low (c ∷ d ∷ cs) = last-low (d ∷ cs)

abbrev ends_low : Name → Bool
ends_low word = last_code word == 95

no-word : list_any ends_low java_words ≡ false
no-word = refl

differs : (v word : Name) → ends_low word ≡ false → bytes_eq (v ++ codes "_") word ≡ false
differs v word e = go (bytes_eq (v ++ codes "_") word) refl where
  go : (b : Bool) → bytes_eq (v ++ codes "_") word ≡ b → b ≡ false
  go true h =
      let same : v ++ codes "_" ≡ word = (bytes_eq-Decides (v ++ codes "_") word).0 h in
      let l : last_code word ≡ 95 = ap last_code (sym same) ∙ last-low v in
      sym (ap (λ n. n == 95) l) ∙ e
  go false h = refl

none-of : (v : Name) (words : List Name) → list_any ends_low words ≡ false → list_any (bytes_eq (v ++ codes "_")) words ≡ false
none-of v [] e = refl
none-of v (word ∷ words) e =
    let parts : (ends_low word ≡ false) × (list_any ends_low words ≡ false) = both-not (ends_low word) (list_any ends_low words) e in
    no_or (bytes_eq (v ++ codes "_") word) (list_any (bytes_eq (v ++ codes "_")) words) (differs v word parts.0) (none-of v words parts.1)

not-reserved : (v : Name) → list_any (bytes_eq (v ++ codes "_")) java_words ≡ false
not-reserved v = none-of v java_words no-word

-- ---- how many loops have a label at least so long

abbrev long : ℕ → List Loop → ℕ
long n [] = 0
long n (l ∷ loops) = min 1 (length l.label + 1 - n) + long n loops

long-all : (n : ℕ) (loops : List Loop) → long n loops ≤ length loops
long-all n [] = omega arith
long-all n (l ∷ loops) = let h : long n loops ≤ length loops = long-all n loops in omega arith

long-less : (n : ℕ) (loops : List Loop) → long (n + 1) loops ≤ long n loops
long-less n [] = omega arith
long-less n (l ∷ loops) = let h : long (n + 1) loops ≤ long n loops = long-less n loops in omega arith

abbrev has_label : Name → List Loop → Bool
has_label w loops = list_any (λ (l : Loop). bytes_eq l.label w) loops

taken-less : (w : Name) (loops : List Loop) → has_label w loops ≡ true → long (length w + 1) loops + 1 ≤ long (length w) loops
taken-less w [] e = absurd (false≢true e)
taken-less w (l ∷ loops) e = go (bytes_eq l.label w) refl (λ h. taken-less w loops h) where
  go : (b : Bool) → bytes_eq l.label w ≡ b → (has_label w loops ≡ true → long (length w + 1) loops + 1 ≤ long (length w) loops) →
      long (length w + 1) (l ∷ loops) + 1 ≤ long (length w) (l ∷ loops)
  go true h ih =
      let same : length l.label ≡ length w = ap length ((bytes_eq-Decides l.label w).0 h) in
      let less : long (length w + 1) loops ≤ long (length w) loops = long-less (length w) loops in
      omega arith
  go false h ih =
      let more : long (length w + 1) loops + 1 ≤ long (length w) loops = ih (right-or (bytes_eq l.label w) (has_label w loops) h e) in
      omega arith

-- ---- the label

step : (b : Bool) (loops : List Loop) (w next : Name) → is_taken loops w ≡ b → (is_taken loops w ≡ true → is_taken loops next ≡ false) →
    is_taken loops (if b then next else w) ≡ false
step true loops w next e h = h e
step false loops w next e h = e

-- a taken label that ends with `_` is that of a loop
of-a-loop : (loops : List Loop) (v : Name) → is_taken loops (v ++ codes "_") ≡ true → has_label (v ++ codes "_") loops ≡ true
of-a-loop loops v e =
    right-or (list_any (bytes_eq (v ++ codes "_")) java_words) (has_label (v ++ codes "_") loops) (not-reserved v) e

free-behind : (n : ℕ) (loops : List Loop) (v : Name) → long (length (v ++ codes "_")) loops ≤ n →
    is_taken loops (free_label n loops (v ++ codes "_")) ≡ false
free-behind zero loops v h = go (is_taken loops (v ++ codes "_")) refl where
  go : (b : Bool) → is_taken loops (v ++ codes "_") ≡ b → b ≡ false
  go true e =
      let less : long (length (v ++ codes "_") + 1) loops + 1 ≤ long (length (v ++ codes "_")) loops =
      taken-less (v ++ codes "_") loops (of-a-loop loops v e) in
      absurd (omega arith)
  go false e = refl
free-behind (suc n) loops v h =
    step (is_taken loops (v ++ codes "_")) loops (v ++ codes "_") (free_label n loops ((v ++ codes "_") ++ codes "_")) refl
    (λ e. free-behind n loops (v ++ codes "_") (shorter e)) where
      shorter : is_taken loops (v ++ codes "_") ≡ true → long (length ((v ++ codes "_") ++ codes "_")) loops ≤ n
      shorter e =
          let less : long (length (v ++ codes "_") + 1) loops + 1 ≤ long (length (v ++ codes "_")) loops =
          taken-less (v ++ codes "_") loops (of-a-loop loops v e) in
          let one : length ((v ++ codes "_") ++ codes "_") ≡ length (v ++ codes "_") + 1 = length-append (v ++ codes "_") (codes "_") in
          let same : long (length ((v ++ codes "_") ++ codes "_")) loops ≡ long (length (v ++ codes "_") + 1) loops =
          ap (λ k. long k loops) one in
          omega arith

pub labels_are_free : (loops : List Loop) (name : Name) → is_taken loops (label_for loops name) ≡ false
labels_are_free loops name =
    let w : Name = map to_ascii_lowercase name in
    step (is_taken loops w) loops w (free_label (length loops) loops (w ++ codes "_")) refl
    (λ e. free-behind (length loops) loops w (long-all (length (w ++ codes "_")) loops))
