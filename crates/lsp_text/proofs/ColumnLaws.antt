-- What characters count, and their longest beginning within a limit.
use Rattle.std.proofs.Common.{◌≡◌, ℕ, ◌+◌, ◌-◌, ◌<◌, ◌≤◌, List, [], ◌∷◌, ◌++◌, length, get_or, drop, Bool, true, false, refl, sym}
use Rattle.std.proofs.Common.{ap, ◌∙◌, subst, arith, length-append}
use Rattle.std.specs.Prelude.{nat_lt, if◌then◌else◌}
use Rattle.std.proofs.Math.Utf8.{encode, encodes}
use Rattle.std.proofs.lemmas.Str.{length-encode, len_utf8_bounds}
use Rattle.std.proofs.lemmas.List.{at_drop_more, at_drop_all}
use Rattle.std.proofs.lemmas.Bool.Decides.{nat_tests}
use Rattle.lsp_text.specs.declared.encoding.Encoding.{Encoding}
use Rattle.lsp_text.specs.declared.encoding.Encoding.TheVariants.{Utf8, Utf16}
use Rattle.lsp_text.specs.Units.{unit_count, units}
use Rattle.lsp_text.specs.inner.Fitting.{fitting}

-- a character counts at most its bytes
pub unit_short : (e : Encoding) (c : ℕ) → unit_count e c ≤ length (encode c)
unit_short Utf8 c = omega arith
unit_short Utf16 c = let l = length-encode c in let b = len_utf8_bounds c in grind (arith, nat_tests)

pub units_short : (e : Encoding) (cs : List ℕ) → units e cs ≤ length (encodes cs)
units_short e [] = omega arith
units_short e (c ∷ cs) =
    let h : unit_count e c ≤ length (encode c) = unit_short e c in
    let t : units e cs ≤ length (encodes cs) = units_short e cs in
    let l : length (encode c ++ encodes cs) ≡ length (encode c) + length (encodes cs) = length-append (encode c) (encodes cs) in
    omega arith

-- bytes of UTF-8 are counted as they stand
pub utf8_units : (cs : List ℕ) → units Utf8 cs ≡ length (encodes cs)
utf8_units [] = refl
utf8_units (c ∷ cs) = ap (λ n. length (encode c) + n) (utf8_units cs) ∙ sym (length-append (encode c) (encodes cs))

-- what is within a limit is a beginning
pub fitting_front : (e : Encoding) (limit : ℕ) (cs : List ℕ) → (ds : List ℕ) × (cs ≡ fitting e limit cs ++ ds)
fitting_front e limit [] = ([], refl)
fitting_front e limit (c ∷ cs) = go (nat_lt limit (unit_count e c)) (fitting_front e (limit - unit_count e c) cs) where
  go : (b : Bool) → (ds : List ℕ) × (cs ≡ fitting e (limit - unit_count e c) cs ++ ds) →
      (ds : List ℕ) × (c ∷ cs ≡ (if b then [] else c ∷ fitting e (limit - unit_count e c) cs) ++ ds)
  go true t = (c ∷ cs, refl)
  go false t = (t.0, ap (λ xs. c ∷ xs) t.1)

-- it counts at most the limit
pub fitting_within : (e : Encoding) (limit : ℕ) (cs : List ℕ) → units e (fitting e limit cs) ≤ limit
fitting_within e limit [] = omega arith
fitting_within e limit (c ∷ cs) = within e limit c (fitting e (limit - unit_count e c) cs) (fitting_within e (limit - unit_count e c) cs) where
  go : (u limit : ℕ) (e : Encoding) (c : ℕ) (fs : List ℕ) (b : Bool) → u ≡ unit_count e c → nat_lt limit u ≡ b → units e fs ≤ limit - u →
      units e (if b then [] else c ∷ fs) ≤ limit
  go u limit e c fs true is h t = omega arith
  go u limit e c fs false is h t = let low : u ≤ limit = not_below limit u h in omega arith where
    not_below : (a b : ℕ) → nat_lt a b ≡ false → b ≤ a
    not_below a b h = grind (arith, nat_tests)

  within : (e : Encoding) (limit c : ℕ) (fs : List ℕ) → units e fs ≤ limit - unit_count e c →
      units e (if nat_lt limit (unit_count e c) then [] else c ∷ fs) ≤ limit
  within e limit c fs t = go (unit_count e c) limit e c fs (nat_lt limit (unit_count e c)) refl refl t

-- every beginning within the limit counts at most as much
pub fitting_last : (e : Encoding) (limit : ℕ) (bs ds : List ℕ) → units e bs ≤ limit → units e bs ≤ units e (fitting e limit (bs ++ ds))
fitting_last e limit [] ds h = omega arith
fitting_last e limit (c ∷ bs) ds h =
    let low : unit_count e c ≤ limit = omega arith in
    let t : units e bs ≤ units e (fitting e (limit - unit_count e c) (bs ++ ds)) =
    fitting_last e (limit - unit_count e c) bs ds (omega arith) in
    let test : nat_lt limit (unit_count e c) ≡ false = at_least limit (unit_count e c) low in
    subst (λ (b : Bool). unit_count e c + units e bs ≤ units e (if b then [] else c ∷ fitting e (limit - unit_count e c) (bs ++ ds)))
    (sym test) (omega arith) where
      at_least : (a b : ℕ) → b ≤ a → nat_lt a b ≡ false
      at_least a b h = grind (arith, nat_tests)

-- the character of a turn is the first of those that are left
pub drop_turn : (cs : List ℕ) (n c : ℕ) → (n < length cs) × (c ≡ get_or cs n c) → drop n cs ≡ c ∷ drop (n + 1) cs
drop_turn cs n c h = at_drop_more (λ (xs : List ℕ). xs) cs n c h.0 ∙ ap (λ x. x ∷ drop (n + 1) cs) (sym h.1)

module _ (within counted : Encoding) (cs : List ℕ) (n c count left total : ℕ) (turn : (n < length cs) × (c ≡ get_or cs n c)) where
  -- one more character that is within the limit
  pub column_step : unit_count within c ≤ left → count + units counted (fitting within left (drop n cs)) ≡ total →
      (count + unit_count counted c) + units counted (fitting within (left - unit_count within c) (drop (n + 1) cs)) ≡ total
  column_step low so_far =
      let here = subst (λ (xs : List ℕ). count + units counted (fitting within left xs) ≡ total) (drop_turn cs n c turn) so_far in
      let test : nat_lt left (unit_count within c) ≡ false = at_least left (unit_count within c) low in
      let rest = subst
      (λ (b : Bool). count + units counted (if b then [] else c ∷ fitting within (left - unit_count within c) (drop (n + 1) cs)) ≡ total)
      test here in
      omega (arith, rest) where
        at_least : (a b : ℕ) → b ≤ a → nat_lt a b ≡ false
        at_least a b h = grind (arith, nat_tests)

  -- a character that isn't
  pub column_stop : left < unit_count within c → count + units counted (fitting within left (drop n cs)) ≡ total → count ≡ total
  column_stop high so_far =
      let here = subst (λ (xs : List ℕ). count + units counted (fitting within left xs) ≡ total) (drop_turn cs n c turn) so_far in
      let test : nat_lt left (unit_count within c) ≡ true = below left (unit_count within c) high in
      let rest = subst
      (λ (b : Bool). count + units counted (if b then [] else c ∷ fitting within (left - unit_count within c) (drop (n + 1) cs)) ≡ total)
      test here in
      omega (arith, rest) where
        below : (a b : ℕ) → a < b → nat_lt a b ≡ true
        below a b h = grind (arith, nat_tests)

  -- what is left to count
  pub units_step : count + units counted (drop n cs) ≤ total → (count + unit_count counted c) + units counted (drop (n + 1) cs) ≤ total
  units_step so_far =
      let here = subst (λ (xs : List ℕ). count + units counted xs ≤ total) (drop_turn cs n c turn) so_far in
      omega (arith, here)

-- no character is left
pub column_end : (within counted : Encoding) (cs : List ℕ) (n count left total : ℕ) → length cs ≤ n →
    count + units counted (fitting within left (drop n cs)) ≡ total → count ≡ total
column_end within counted cs n count left total done so_far =
    let here = subst (λ (xs : List ℕ). count + units counted (fitting within left xs) ≡ total) (at_drop_all (λ (xs : List ℕ). xs) cs n done)
    so_far in
    omega (arith, here)

-- the same step, with the numbers that the code has
pub step_at : (within counted : Encoding) (cs : List ℕ) (n m count left w k a b total : ℕ) → m ≡ n + 1 → w ≡ a → k ≡ b →
    (count + b) + units counted (fitting within (left - a) (drop (n + 1) cs)) ≡ total →
    (count + k) + units counted (fitting within (left - w) (drop m cs)) ≡ total
step_at within counted cs n m count left w k a b total same_n same_w same_k h =
    subst (λ (x : ℕ). (count + k) + units counted (fitting within (left - w) (drop x cs)) ≡ total) (sym same_n)
    (subst (λ (x : ℕ). (count + k) + units counted (fitting within (left - x) (drop (n + 1) cs)) ≡ total) (sym same_w)
    (subst (λ (x : ℕ). (count + x) + units counted (fitting within (left - a) (drop (n + 1) cs)) ≡ total) (sym same_k) h))

pub less_at : (a b c : ℕ) → a ≡ b → c < a → c < b
less_at a b c same less = omega arith
