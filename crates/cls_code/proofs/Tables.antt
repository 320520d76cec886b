-- The arguments of a table: what is read is spelled so, and what is spelled so is read.
use Rattle.std.proofs.Common.{◌≡◌, ℕ, ℤ, pos, negsuc, zero, suc, ◌+◌, ◌*◌, ◌-◌, ◌+ℤ◌, ◌-ℤ◌, ◌<◌, ◌≤◌, Bool, true, false, cond, ◌||◌, List}
use Rattle.std.proofs.Common.{[], ◌∷◌, ◌++◌, length, take, drop, replicate, refl, sym, ap, ◌∙◌, append_assoc, length-append, append-nil}
use Rattle.std.proofs.Common.{length-drop, length-take, subst, arith}
use Rattle.std.proofs.Math.Seq.{take-add}
use Rattle.std.proofs.lemmas.List.{drop_at, take_at, length-replicate}
use Rattle.std.proofs.lemmas.Int.{ints}
use Rattle.std.proofs.lemmas.Bool.Decides.{nat_tests}
use Rattle.std.specs.Prelude.{nat_lt, ◌==◌}
use Rattle.std.specs.List.{flat_map, AllByRecursion, list_any}
use Rattle.std.specs.Int.RustNames.{FitsSigned, unsigned_abs}
use lib.Signed.{lt_z, ◌<ℤ◌, ◌≤ℤ◌}
use mir.Syntax.{w32}
use Rattle.cls_tree.specs.declared.instr.Form.TheVariants as forms
use Rattle.cls_tree.specs.Tree.{Table}
use Rattle.cls_tree.specs.Layout.{s4, pad, highest, form_bytes}
use Rattle.cls_tree.specs.Fits.{FitsForm}
use Rattle.cls_code.specs.Code.{s4_at, cases_between, cases_of, room, is_bad_switch}
use Rattle.cls_code.specs.Inner.{words, args_in}
use Rattle.cls_code.proofs.Spelled.{IsBytes, bytes_drop, signed4, told4, signed_back4, longs4}
use Rattle.cls_code.proofs.Words.{length-words, words_fit, words_told, words_back, length-words_bytes}

-- as many as from the lowest to the highest: the highest is that
abs_up : (low high d : ℤ) → d ≡ high -ℤ low → low ≤ℤ high → (low +ℤ pos (suc (unsigned_abs d))) -ℤ pos 1 ≡ high
abs_up low high (pos n) e le = omega (arith, ints)
abs_up low high (negsuc n) e le = absurd (omega (arith, ints))

between_as : (low high : ℤ) (b : Bool) → lt_z high low ≡ b → 0 < cond b 0 (suc (unsigned_abs (high -ℤ low)))
    → (low +ℤ pos (cond b 0 (suc (unsigned_abs (high -ℤ low))))) -ℤ pos 1 ≡ high
between_as low high true e some = absurd (omega arith)
between_as low high false e some = abs_up low high (high -ℤ low) refl (grind (arith, ints))

pub highest_is : (low high : ℤ) (os : List ℤ) → length os ≡ cases_between low high → 0 < cases_between low high → highest low os ≡ high
highest_is low high os e some =
    ap (λ n. (low +ℤ pos n) -ℤ pos 1) e ∙ between_as low high (lt_z high low) refl some

-- and back
abs_of : (low d : ℤ) (n : ℕ) → d ≡ ((low +ℤ pos (suc n)) -ℤ pos 1) -ℤ low → unsigned_abs d ≡ n
abs_of low (pos k) n e = omega (arith, ints)
abs_of low (negsuc k) n e = absurd (omega (arith, ints))

not_below : (low : ℤ) (n : ℕ) → lt_z ((low +ℤ pos (suc n)) -ℤ pos 1) low ≡ false
not_below low n = grind (arith, ints)

pub cases_back : (low : ℤ) (os : List ℤ) → 0 < length os → cases_between low (highest low os) ≡ length os
cases_back low [] some = absurd (omega arith)
cases_back low (o ∷ os) some =
    ap (λ b. cond b 0 (suc (unsigned_abs (highest low (o ∷ os) -ℤ low)))) (not_below low (length os))
    ∙ ap suc (abs_of low (highest low (o ∷ os) -ℤ low) (length os) refl)

-- bytes of which none is set
none_set : (bytes : List ℕ) → list_any (λ b. nat_lt 0 b) bytes ≡ false → bytes ≡ replicate (length bytes) 0
none_set [] e = refl
none_set (zero ∷ bytes) e = ap (λ bs. 0 ∷ bs) (none_set bytes e)
none_set (suc b ∷ bytes) e = absurd (grind (arith, nat_tests))

zeros_unset : (n : ℕ) → list_any (λ b. nat_lt 0 b) (replicate n 0) ≡ false
zeros_unset zero = refl
zeros_unset (suc n) = zeros_unset n

no_or : (a b : Bool) → (a || b) ≡ false → (a ≡ false) × (b ≡ false)
no_or a b e = grind (arith, nat_tests)

positive : (n : ℕ) → (n == 0) ≡ false → 0 < n
positive n e = grind (arith, nat_tests)

-- four numbers of four bytes and more, behind a front
module _ (p n : ℕ) (rest : List ℕ) where
  one_more : (k l : ℕ) → l ≡ k + 4 → take l rest ≡ take k rest ++ take 4 (drop k rest)
  one_more k l e = ap (λ m. take m rest) e ∙ take-add k 4 rest

  parts_taken : take ((p + 12) + 4 * n) rest
      ≡ take p rest ++ (take 4 (drop p rest)
      ++ (take 4 (drop (p + 4) rest) ++ (take 4 (drop (p + 8) rest) ++ take (4 * n) (drop (p + 12) rest))))
  parts_taken =
      let a = one_more (p + 8) (p + 12) (omega arith) in
      let b = one_more (p + 4) (p + 8) (omega arith) in
      let c = one_more p (p + 4) refl in
      rw (take-add (p + 12) (4 * n) rest, a, b, c) (simp append_assoc)

-- the whole of a table, of its parts
five_parts : (a a' b b' c c' d d' e e' : List ℕ) → a ≡ a' → b ≡ b' → c ≡ c' → d ≡ d' → e ≡ e'
    → a ++ (b ++ (c ++ (d ++ e))) ≡ a' ++ (b' ++ (c' ++ (d' ++ e')))
five_parts a a' b b' c c' d d' e e' p q r s t = cc

module _ (place : ℕ) (rest : List ℕ) (fits : IsBytes rest) (long : room place forms.Table rest ≤ length rest)
    (good : is_bad_switch place forms.Table rest ≡ false) where
  some_cases : 0 < cases_of place rest
  some_cases = positive (cases_of place rest) (no_or (list_any (λ b. nat_lt 0 b) (take (pad place) rest)) (cases_of place rest == 0) good).1

  unset : list_any (λ b. nat_lt 0 b) (take (pad place) rest) ≡ false
  unset = (no_or (list_any (λ b. nat_lt 0 b) (take (pad place) rest)) (cases_of place rest == 0) good).0

  high_is : highest (s4_at (pad place + 4) rest) (words (cases_of place rest) (drop (pad place + 12) rest)) ≡ s4_at (pad place + 8) rest
  high_is =
      highest_is (s4_at (pad place + 4) rest) (s4_at (pad place + 8) rest) (words (cases_of place rest) (drop (pad place + 12) rest))
      (length-words (cases_of place rest) (drop (pad place + 12) rest)) some_cases

  pub table_fits : FitsForm forms.Table (args_in place forms.Table rest)
  table_fits =
      let os = words (cases_of place rest) (drop (pad place + 12) rest) in (
        signed4 (pad place) rest fits,
        signed4 (pad place + 4) rest fits,
        subst (FitsSigned w32) (sym high_is) (signed4 (pad place + 8) rest fits),
        words_fit (cases_of place rest) (drop (pad place + 12) rest) (bytes_drop (pad place + 12) rest fits),
        subst (λ n. 0 < n) (sym (length-words (cases_of place rest) (drop (pad place + 12) rest))) some_cases,
      )

  zeros_are : replicate (pad place) 0 ≡ take (pad place) rest
  zeros_are =
      let n : length (take (pad place) rest) ≡ pad place = omega (arith, long, length-take (pad place) rest) in
      ap (λ k. replicate k 0) (sym n) ∙ sym (none_set (take (pad place) rest) unset)

  pub table_told : form_bytes place forms.Table (args_in place forms.Table rest) ≡ take (room place forms.Table rest) rest
  table_told =
      let p = pad place in
      let n = cases_of place rest in
      five_parts (replicate p 0) (take p rest) (s4 (s4_at p rest)) (take 4 (drop p rest)) (s4 (s4_at (p + 4) rest))
      (take 4 (drop (p + 4) rest))
      (s4 (highest (s4_at (p + 4) rest) (words n (drop (p + 12) rest)))) (take 4 (drop (p + 8) rest))
      (flat_map s4 (words n (drop (p + 12) rest))) (take (4 * n) (drop (p + 12) rest))
      zeros_are
      (told4 p rest (omega (arith, long, length-drop p rest)) fits)
      (told4 (p + 4) rest (omega (arith, long, length-drop (p + 4) rest)) fits)
      (ap s4 high_is ∙ told4 (p + 8) rest (omega (arith, long, length-drop (p + 8) rest)) fits)
      (words_told n (drop (p + 12) rest) (omega (arith, long, length-drop (p + 12) rest)) (bytes_drop (p + 12) rest fits))
      ∙ sym (parts_taken p n rest)

-- what stands at a place is read there
regroup : (a b c d e t : List ℕ) → (a ++ (b ++ (c ++ (d ++ e)))) ++ t ≡ a ++ (b ++ (c ++ (d ++ (e ++ t))))
regroup a b c d e t = simp append_assoc

regroup2 : (a b c d e t : List ℕ) → a ++ (b ++ (c ++ (d ++ (e ++ t)))) ≡ (a ++ b) ++ (c ++ (d ++ (e ++ t)))
regroup2 a b c d e t = simp append_assoc

regroup3 : (a b c d e t : List ℕ) → a ++ (b ++ (c ++ (d ++ (e ++ t)))) ≡ (a ++ (b ++ c)) ++ (d ++ (e ++ t))
regroup3 a b c d e t = simp append_assoc

regroup4 : (a b c d e t : List ℕ) → a ++ (b ++ (c ++ (d ++ (e ++ t)))) ≡ (a ++ (b ++ (c ++ d))) ++ (e ++ t)
regroup4 a b c d e t = simp append_assoc

long_parts : (a b c d : List ℕ) (p : ℕ) → length a ≡ p → length b ≡ 4 → length c ≡ 4 → length d ≡ 4
    → (length (a ++ b) ≡ p + 4) × (length (a ++ (b ++ c)) ≡ p + 8) × (length (a ++ (b ++ (c ++ d))) ≡ p + 12)
long_parts a b c d p x y z w = (simp length-append (omega arith), simp length-append (omega arith), simp length-append (omega arith))

-- what is spelled is read
module _ (place : ℕ) (default low : ℤ) (os : List ℤ) (tail : List ℕ) (f : FitsForm forms.Table (Table default low os)) where
  abbrev zeros : List ℕ
  zeros = replicate (pad place) 0

  abbrev high : List ℕ
  high = s4 (highest low os)

  abbrev pub table_bytes : List ℕ
  table_bytes = form_bytes place forms.Table (Table default low os) ++ tail

  spelled : table_bytes ≡ zeros ++ (s4 default ++ (s4 low ++ (high ++ (flat_map s4 os ++ tail))))
  spelled = regroup zeros (s4 default) (s4 low) high (flat_map s4 os) tail

  sizes : (length (zeros ++ s4 default) ≡ pad place + 4) × (length (zeros ++ (s4 default ++ s4 low)) ≡ pad place + 8)
      × (length (zeros ++ (s4 default ++ (s4 low ++ high))) ≡ pad place + 12)
  sizes = long_parts zeros (s4 default) (s4 low) high (pad place) (length-replicate (pad place) 0) (longs4 default) (longs4 low)
      (longs4 (highest low os))

  behind : (front back : List ℕ) (z : ℤ) (n : ℕ) → table_bytes ≡ front ++ (s4 z ++ back) → length front ≡ n → FitsSigned w32 z →
      s4_at n table_bytes ≡ z
  behind front back z n e long fit = ap (s4_at n) e ∙ signed_back4 n front z back long fit

  default_back : s4_at (pad place) table_bytes ≡ default
  default_back = behind zeros (s4 low ++ (high ++ (flat_map s4 os ++ tail))) default (pad place) spelled (length-replicate (pad place) 0)
      f.0

  low_back : s4_at (pad place + 4) table_bytes ≡ low
  low_back =
      behind (zeros ++ s4 default) (high ++ (flat_map s4 os ++ tail)) low (pad place + 4)
      (spelled ∙ regroup2 zeros (s4 default) (s4 low) high (flat_map s4 os) tail) sizes.0 f.1

  high_back : s4_at (pad place + 8) table_bytes ≡ highest low os
  high_back =
      behind (zeros ++ (s4 default ++ s4 low)) (flat_map s4 os ++ tail) (highest low os) (pad place + 8)
      (spelled ∙ regroup3 zeros (s4 default) (s4 low) high (flat_map s4 os) tail) sizes.1 f.2

  pub cases_are : cases_of place table_bytes ≡ length os
  cases_are =
      ap (λ z. cases_between z (s4_at (pad place + 8) table_bytes)) low_back ∙ ap (cases_between low) high_back
      ∙ cases_back low os f.4

  offsets_back : words (cases_of place table_bytes) (drop (pad place + 12) table_bytes) ≡ os
  offsets_back =
      ap (λ n. words n (drop (pad place + 12) table_bytes)) cases_are
      ∙ ap (λ bs. words (length os) (drop (pad place + 12) bs)) (spelled ∙ regroup4 zeros (s4 default) (s4 low) high (flat_map s4 os) tail)
      ∙ ap (words (length os)) (drop_at (zeros ++ (s4 default ++ (s4 low ++ high))) (flat_map s4 os ++ tail) (pad place + 12) sizes.2)
      ∙ words_back os tail f.3

  pub table_back : args_in place forms.Table table_bytes ≡ Table default low os
  table_back =
      ap (λ z. Table z (s4_at (pad place + 4) table_bytes) (words (cases_of place table_bytes) (drop (pad place + 12) table_bytes)))
      default_back
      ∙ ap (λ z. Table default z (words (cases_of place table_bytes) (drop (pad place + 12) table_bytes))) low_back
      ∙ ap (Table default low) offsets_back

  pub table_room : room place forms.Table table_bytes ≡ length (form_bytes place forms.Table (Table default low os))
  table_room =
      ap (λ n. (pad place + 12) + 4 * n) cases_are
      ∙ sum_of (zeros ++ (s4 default ++ (s4 low ++ high))) (flat_map s4 os) (length os) sizes.2 (length-words_bytes os)
      ∙ ap length (sym (regroup4 zeros (s4 default) (s4 low) high (flat_map s4 os) []) ∙
      ap (λ bs. zeros ++ (s4 default ++ (s4 low ++ (high ++ bs)))) (append-nil (flat_map s4 os)))
    where
      sum_of : (a b : List ℕ) (n : ℕ) → length a ≡ pad place + 12 → length b ≡ 4 * n → (pad place + 12) + 4 * n ≡ length (a ++ (b ++ []))
      sum_of a b n x y = simp length-append (omega (arith, x, y))

  pub table_good : is_bad_switch place forms.Table table_bytes ≡ false
  table_good =
      ap (λ bs. list_any (λ b. nat_lt 0 b) bs || (cases_of place table_bytes == 0)) taken
      ∙ ap (λ b. b || (cases_of place table_bytes == 0)) (zeros_unset (pad place))
      ∙ ap (λ n. n == 0) cases_are ∙ some_no (length os) f.4
    where
      taken : take (pad place) table_bytes ≡ zeros
      taken = ap (take (pad place)) spelled ∙ take_at zeros (s4 default ++ (s4 low ++ (high ++ (flat_map s4 os ++ tail)))) (pad place)
          (length-replicate (pad place) 0)

      some_no : (n : ℕ) → 0 < n → (n == 0) ≡ false
      some_no n h = grind (arith, nat_tests)
