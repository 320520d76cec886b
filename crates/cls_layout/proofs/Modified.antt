-- Modified UTF-8: what is read is spelled so, and what is spelled so is read.
use Rattle.std.proofs.Common.{◌≡◌, ◌⊎◌, ℕ, zero, suc, ◌+◌, ◌-◌, ◌/◌, ◌%◌, ◌<◌, ◌≤◌, List, [], ◌∷◌, ◌++◌, length, Bool, true, false, cond}
use Rattle.std.proofs.Common.{eqb, ltb, Some, refl, sym, ap, subst, ◌∙◌, append_assoc, append-nil, length-append, arith, inl, inr}
use Rattle.std.specs.Prelude.{◌&&◌, encode_utf8_all}
use Rattle.std.specs.List.{flat_map}
use Rattle.std.specs.Char.{IsScalar}
use Rattle.std.specs.Str.{chars, IsUtf8}
use Rattle.std.proofs.lemmas.Bool.{ltb-true, ltb-false, lt-ltb, le-ltb, eqb-true, eqb-false, ne_eqb, cases_lt}
use Rattle.std.proofs.lemmas.Bool.Decides.{nat_tests}
use Rattle.std.proofs.lemmas.Str.{chars-encodes, encodes-chars, scalars-chars, encodes-append}
use lib.Utf8.{scalar, scalars, scalar_cases, encode}
use Rattle.mg_read.specs.declared.ReadError.{ReadError}
use Rattle.mg_read.specs.declared.ReadError.TheVariants as errors
use Rattle.mg_read.specs.Reader.{Fails, many, all_of}
use Rattle.mg_read.proofs.Loop.{Left, Left-init, Left-more, Left-done, Left-none}
use Rattle.mg_read.proofs.Steps.{bind_some, some_is, none_is_not, chosen}
use Rattle.cls_tree.specs.Modified.{two_bytes, three_bytes, modified_char, modified}
use Rattle.cls_layout.specs.Letters.{is_tail, unless_long, unit_of_two, unit_of_three, two_at, three_at, unit_at, is_high, is_low}
use Rattle.cls_layout.specs.Letters.{char_of_two, second_at, char_at, some_left, letters}
use Rattle.cls_layout.proofs.Held.{held, passed}

-- a unit in as few bytes as it takes; 0 takes two
unit_bytes : ℕ → List ℕ
unit_bytes u = cond (eqb u 0) (two_bytes 0) (cond (ltb u 128) (u ∷ []) (cond (ltb u 2048) (two_bytes u) (three_bytes u)))

bytes_one : (u : ℕ) → 0 < u → u < 128 → unit_bytes u ≡ u ∷ []
unfolding unit_bytes
bytes_one u low high = rw (ne_eqb u 0 (λ h. omega (arith, h)), lt-ltb u 128 high) refl

bytes_zero : (u : ℕ) → u ≡ 0 → unit_bytes u ≡ two_bytes u
unfolding unit_bytes
bytes_zero u e = rw e refl

bytes_two : (u : ℕ) → 128 ≤ u → u < 2048 → unit_bytes u ≡ two_bytes u
unfolding unit_bytes
bytes_two u low high = rw (ne_eqb u 0 (λ h. omega (arith, h)), le-ltb u 128 low, lt-ltb u 2048 high) refl

bytes_three : (u : ℕ) → 2048 ≤ u → unit_bytes u ≡ three_bytes u
unfolding unit_bytes
bytes_three u low = rw (ne_eqb u 0 (λ h. omega (arith, h)), le-ltb u 128 (omega arith), le-ltb u 2048 low) refl

both : (a b : Bool) → (a && b) ≡ true → (a ≡ true) × (b ≡ true)
both true true e = (refl, refl)
both true false e = absurd cc
both false b e = absurd cc

both_hold : (a b : Bool) → a ≡ true → b ≡ true → (a && b) ≡ true
both_hold a b e f = rw (e, f) refl

tail_bounds : (b : ℕ) → is_tail b ≡ true → (128 ≤ b) × (b < 192)
tail_bounds b e = let p = both (ltb 127 b) (ltb b 192) e in (let k = ltb-true 127 b p.0 in omega (arith, k), ltb-true b 192 p.1)

a_tail : (n : ℕ) → is_tail (128 + n % 64) ≡ true
a_tail n = both_hold (ltb 127 (128 + n % 64)) (ltb (128 + n % 64) 192) (lt-ltb 127 (128 + n % 64) (omega arith))
    (lt-ltb (128 + n % 64) 192 (omega arith))

not_long : (long : Bool) (n : ℕ) (rest : List ℕ) (x : ℕ × List ℕ) → unless_long long n rest ≡ Some x → (long ≡ false) × ((n, rest) ≡ x)
not_long true n rest x e = absurd (none_is_not x e)
not_long false n rest x e = (refl, some_is (n, rest) x e)

-- what two and three bytes are, either way
two_back : (a b : ℕ) → 192 ≤ a → 128 ≤ b → b < 192 → two_bytes (unit_of_two a b) ≡ a ∷ b ∷ []
two_back a b low tail end =
    let n = unit_of_two a b in
    let first : 192 + n / 64 ≡ a = omega arith in
    let second : 128 + n % 64 ≡ b = omega arith in
    rw (first, second) refl

three_back : (a b c : ℕ) → 224 ≤ a → 128 ≤ b → b < 192 → 128 ≤ c → c < 192 → three_bytes (unit_of_three a b c) ≡ a ∷ b ∷ c ∷ []
three_back a b c low b_low b_high c_low c_high =
    let n = unit_of_three a b c in
    let first : 224 + n / 4096 ≡ a = omega arith in
    let second : 128 + n / 64 % 64 ≡ b = omega arith in
    let third : 128 + n % 64 ≡ c = omega arith in
    rw (first, second, third) refl

two_on : (n : ℕ) → unit_of_two (192 + n / 64) (128 + n % 64) ≡ n
two_on n = omega arith

three_on : (n : ℕ) → unit_of_three (224 + n / 4096) (128 + n / 64 % 64) (128 + n % 64) ≡ n
three_on n = omega arith

-- ---- units
abbrev UnitRead : List ℕ → ℕ × List ℕ → Type 0
UnitRead bytes x = (bytes ≡ unit_bytes x.0 ++ x.1) × (x.0 < 65536)

short_long : (n : ℕ) → (ltb 0 n && ltb n 128) ≡ false → (n ≡ 0) ⊎ (128 ≤ n)
short_long n e = grind (arith, nat_tests)

two_read : (a : ℕ) (bytes : List ℕ) (x : ℕ × List ℕ) → 192 ≤ a → a < 224 → two_at a bytes ≡ Some x → UnitRead (a ∷ bytes) x
unfolding two_at
two_read a [] x low high e = absurd (none_is_not x e)
two_read a (b ∷ rest) x low high e =
    let h = held (is_tail b) (unless_long (ltb 0 (unit_of_two a b) && ltb (unit_of_two a b) 128) (unit_of_two a b) rest) x e in
    let t = tail_bounds b h.0 in
    let n = not_long (ltb 0 (unit_of_two a b) && ltb (unit_of_two a b) 128) (unit_of_two a b) rest x h.1 in
    let small : unit_of_two a b < 2048 = let l = t.0 in let u = t.1 in omega arith in
    let back = two_back a b low t.0 t.1 in
    let spelled : unit_bytes (unit_of_two a b) ≡ two_bytes (unit_of_two a b) =
    elim (short_long (unit_of_two a b) n.0) [ inl z ↦ bytes_zero (unit_of_two a b) z | inr l ↦ bytes_two (unit_of_two a b) l small ] in
    subst (UnitRead (a ∷ b ∷ rest)) n.1 (ap (λ (w : List ℕ). w ++ rest) (sym (spelled ∙ back)), omega arith)

three_read : (a : ℕ) (bytes : List ℕ) (x : ℕ × List ℕ) → 224 ≤ a → a < 240 → three_at a bytes ≡ Some x → UnitRead (a ∷ bytes) x
unfolding three_at
three_read a [] x low high e = absurd (none_is_not x e)
three_read a (b ∷ []) x low high e = absurd (none_is_not x e)
three_read a (b ∷ c ∷ rest) x low high e =
    let h = held (is_tail b && is_tail c) (unless_long (ltb (unit_of_three a b c) 2048) (unit_of_three a b c) rest) x e in
    let p = both (is_tail b) (is_tail c) h.0 in
    let s = tail_bounds b p.0 in
    let t = tail_bounds c p.1 in
    let n = not_long (ltb (unit_of_three a b c) 2048) (unit_of_three a b c) rest x h.1 in
    let large : 2048 ≤ unit_of_three a b c = ltb-false (unit_of_three a b c) 2048 n.0 in
    let small : unit_of_three a b c < 65536 = let w = s.0 in let y = s.1 in let l = t.0 in let u = t.1 in omega arith in
    let back = three_back a b c low s.0 s.1 t.0 t.1 in
    subst (UnitRead (a ∷ b ∷ c ∷ rest)) n.1 (ap (λ (w : List ℕ). w ++ rest) (sym (bytes_three (unit_of_three a b c) large ∙ back)), small)

unit_read : (bytes : List ℕ) (x : ℕ × List ℕ) → unit_at bytes ≡ Some x → UnitRead bytes x
unfolding unit_at
unit_read [] x e = absurd (none_is_not x e)
unit_read (a ∷ bytes) x e = elim (chosen (ltb a 128) _ _ (Some x) e) [
  | inl t ↦
      let n = not_long (eqb a 0) a bytes x t.1 in
      let small : a < 128 = ltb-true a 128 t.0 in
      let some : 0 < a = let k = eqb-false a 0 n.0 in omega (arith, k) in
      subst (UnitRead (a ∷ bytes)) n.1 (ap (λ (w : List ℕ). w ++ bytes) (sym (bytes_one a some small)), omega arith)
  | inr f ↦
      let p = passed (ltb a 192) _ x f.1 in
      let low : 192 ≤ a = ltb-false a 192 p.0 in
      elim (chosen (ltb a 224) _ _ (Some x) p.1) [
        | inl t ↦ two_read a bytes x low (ltb-true a 224 t.0) t.1
        | inr g ↦ let h = held (ltb a 240) (three_at a bytes) x g.1 in three_read a bytes x (ltb-false a 224 g.0) (ltb-true a 240 h.0) h.1
      ]
]

abbrev UnitGiven : ℕ → List ℕ → Type 0
UnitGiven u rest = unit_at (unit_bytes u ++ rest) ≡ Some (u, rest)

one_given : (u : ℕ) (rest : List ℕ) → 0 < u → u < 128 → UnitGiven u rest
unfolding unit_at
one_given u rest low high = ap (λ w. unit_at (w ++ rest)) (bytes_one u low high) ∙
    rw (lt-ltb u 128 high, ne_eqb u 0 (λ h. omega (arith, h))) refl

two_given : (u : ℕ) (rest : List ℕ) → (u ≡ 0) ⊎ (128 ≤ u) → u < 2048 → unit_at (two_bytes u ++ rest) ≡ Some (u, rest)
unfolding unit_at two_at
two_given u rest long high =
    rw (
      le-ltb (192 + u / 64) 128 (omega arith),
      le-ltb (192 + u / 64) 192 (omega arith),
      lt-ltb (192 + u / 64) 224 (omega arith),
      a_tail u,
      two_on u,
      none u long,
    ) refl where
      none : (u : ℕ) → (u ≡ 0) ⊎ (128 ≤ u) → (ltb 0 u && ltb u 128) ≡ false
      none u h = grind (arith, nat_tests)

three_given : (u : ℕ) (rest : List ℕ) → 2048 ≤ u → u < 65536 → unit_at (three_bytes u ++ rest) ≡ Some (u, rest)
unfolding unit_at three_at
three_given u rest low high =
    rw (
      le-ltb (224 + u / 4096) 128 (omega arith),
      le-ltb (224 + u / 4096) 192 (omega arith),
      le-ltb (224 + u / 4096) 224 (omega arith),
      lt-ltb (224 + u / 4096) 240 (omega arith),
      a_tail (u / 64),
      a_tail u,
      three_on u,
      le-ltb u 2048 low,
    ) refl

unit_given : (u : ℕ) (rest : List ℕ) → u < 65536 → UnitGiven u rest
unit_given u rest high = elim (cases_lt u 128) [
  | inl small ↦ elim (cases_lt 0 u) [
    | inl some ↦ one_given u rest some small
    | inr none ↦ ap (λ w. unit_at (w ++ rest)) (bytes_zero u (omega arith)) ∙ two_given u rest (inl (omega arith)) (omega arith)
  ]
  | inr large ↦ elim (cases_lt u 2048) [
    | inl below ↦ ap (λ w. unit_at (w ++ rest)) (bytes_two u large below) ∙ two_given u rest (inr large) below
    | inr above ↦ ap (λ w. unit_at (w ++ rest)) (bytes_three u above) ∙ three_given u rest above high
  ]
]

-- ---- characters
-- what a character of one unit and of two is, either way
char_one : (u : ℕ) → u < 65536 → modified_char u ≡ unit_bytes u
unfolding unit_bytes
char_one u lt = rw (lt-ltb u 65536 lt) refl

char_two : (c : ℕ) → 65536 ≤ c → c < 1114112 → modified_char c ≡ unit_bytes (55296 + (c - 65536) / 1024) ++ unit_bytes (56320 + c % 1024)
char_two c low high =
    let test : modified_char c ≡ three_bytes (55296 + (c - 65536) / 1024) ++ three_bytes (56320 + c % 1024) =
    rw (ne_eqb c 0 (λ h. omega (arith, h)), le-ltb c 128 (omega arith), le-ltb c 2048 (omega arith), le-ltb c 65536 low) refl in
    test ∙ rw (bytes_three (55296 + (c - 65536) / 1024) (omega arith), bytes_three (56320 + c % 1024) (omega arith)) refl

high_bounds : (u : ℕ) → is_high u ≡ true → (55296 ≤ u) × (u < 56320)
high_bounds u e = let p = both (ltb 55295 u) (ltb u 56320) e in (let k = ltb-true 55295 u p.0 in omega (arith, k), ltb-true u 56320 p.1)

low_bounds : (u : ℕ) → is_low u ≡ true → (56320 ≤ u) × (u < 57344)
low_bounds u e = let p = both (ltb 56319 u) (ltb u 57344) e in (let k = ltb-true 56319 u p.0 in omega (arith, k), ltb-true u 57344 p.1)

no_surrogate : (u : ℕ) → is_high u ≡ false → is_low u ≡ false → u < 65536 → IsScalar u
no_surrogate u e f lt = grind (arith, nat_tests)

scalar_above : (c : ℕ) → 57344 ≤ c → c < 1114112 → IsScalar c
scalar_above c low high = grind (arith, nat_tests)

abbrev CharRead : List ℕ → ℕ × List ℕ → Type 0
CharRead bytes x = (bytes ≡ modified_char x.0 ++ x.1) × IsScalar x.0

pairs_back : (u v : ℕ) → 55296 ≤ u → u < 56320 → 56320 ≤ v → v < 57344 → modified_char (char_of_two u v) ≡ unit_bytes u ++ unit_bytes v
pairs_back u v u_low u_high v_low v_high =
    let c = char_of_two u v in
    let first : 55296 + (c - 65536) / 1024 ≡ u = omega arith in
    let second : 56320 + c % 1024 ≡ v = omega arith in
    char_two c (omega arith) (omega arith) ∙ rw (first, second) refl

pub char_read : (bytes : List ℕ) (x : ℕ × List ℕ) → char_at bytes ≡ Some x → CharRead bytes x
unfolding char_at second_at
char_read bytes x e =
    let u = bind_some (unit_at bytes) _ x e in
    let r = unit_read bytes u.0 u.1 in
    elim (chosen (is_high u.0.0) _ _ (Some x) u.2) [
      | inl t ↦
          let h = high_bounds u.0.0 t.0 in
          let v = bind_some (unit_at u.0.1) _ x t.1 in
          let s = unit_read u.0.1 v.0 v.1 in
          let k = held (is_low v.0.0) (Some (char_of_two u.0.0 v.0.0, v.0.1)) x v.2 in
          let l = low_bounds v.0.0 k.0 in
          let both_parts : bytes ≡ (unit_bytes u.0.0 ++ unit_bytes v.0.0) ++ v.0.1 =
          r.0 ∙ (ap (λ (w : List ℕ). unit_bytes u.0.0 ++ w) s.0 ∙ sym (append_assoc (unit_bytes u.0.0) (unit_bytes v.0.0) v.0.1)) in
          subst (CharRead bytes) (some_is (char_of_two u.0.0 v.0.0, v.0.1) x k.1)
          (both_parts ∙ ap (λ (w : List ℕ). w ++ v.0.1) (sym (pairs_back u.0.0 v.0.0 h.0 h.1 l.0 l.1)), above u.0.0 v.0.0 h.0 h.1 l.0 l.1)
      | inr f ↦
          let p = passed (is_low u.0.0) (Some (u.0.0, u.0.1)) x f.1 in
          subst (CharRead bytes) (some_is (u.0.0, u.0.1) x p.1) (
            r.0 ∙ ap (λ (w : List ℕ). w ++ u.0.1) (sym (char_one u.0.0 r.1)),
            no_surrogate u.0.0 f.0 p.0 r.1,
          )
    ] where
      above : (u v : ℕ) → 55296 ≤ u → u < 56320 → 56320 ≤ v → v < 57344 → IsScalar (char_of_two u v)
      above u v a b c d = scalar_above (char_of_two u v) (omega arith) (omega arith)

one_char : (c : ℕ) (rest : List ℕ) → is_high c ≡ false → is_low c ≡ false → c < 65536 → char_at (modified_char c ++ rest) ≡ Some (c, rest)
unfolding char_at
one_char c rest e f lt = ap (λ w. char_at (w ++ rest)) (char_one c lt) ∙ rw (unit_given c rest lt, e, f) refl

two_char : (c : ℕ) (rest : List ℕ) → 65536 ≤ c → c < 1114112 → char_at (modified_char c ++ rest) ≡ Some (c, rest)
unfolding char_at second_at
two_char c rest low high =
    let u = 55296 + (c - 65536) / 1024 in
    let v = 56320 + c % 1024 in
    let is : char_of_two u v ≡ c = omega arith in
    ap (λ w. char_at (w ++ rest)) (char_two c low high)
    ∙ ap char_at (append_assoc (unit_bytes u) (unit_bytes v) rest)
    ∙ rw (
      unit_given u (unit_bytes v ++ rest) (omega arith),
      first u (omega arith) (omega arith),
      unit_given v rest (omega arith),
      second v (omega arith) (omega arith),
      is,
    ) refl
  where
    first : (u : ℕ) → 55296 ≤ u → u < 56320 → is_high u ≡ true
    first u a b = grind (arith, nat_tests)

    second : (u : ℕ) → 56320 ≤ u → u < 57344 → is_low u ≡ true
    second u a b = grind (arith, nat_tests)

below_surrogates : (c : ℕ) → c < 55296 → (is_high c ≡ false) × (is_low c ≡ false)
below_surrogates c h = (grind (arith, nat_tests), grind (arith, nat_tests))

above_surrogates : (c : ℕ) → 57344 ≤ c → (is_high c ≡ false) × (is_low c ≡ false)
above_surrogates c h = (grind (arith, nat_tests), grind (arith, nat_tests))

pub char_given : (c : ℕ) (rest : List ℕ) → IsScalar c → char_at (modified_char c ++ rest) ≡ Some (c, rest)
char_given c rest s = elim (scalar_cases c s) [
  | inl low ↦ let t = below_surrogates c low in one_char c rest t.0 t.1 (omega arith)
  | inr high ↦ elim (cases_lt c 65536) [
    | inl lt ↦ let t = above_surrogates c high.0 in one_char c rest t.0 t.1 lt
    | inr le ↦ two_char c rest le high.1
  ]
]

-- ---- texts
pub not_empty : (bytes : List ℕ) → 0 < length bytes → some_left bytes ≡ true
not_empty [] lt = absurd (omega arith)
not_empty (b ∷ bytes) lt = refl

unit_some : (u : ℕ) → 0 < length (unit_bytes u)
unfolding unit_bytes
unit_some u = go (eqb u 0) (ltb u 128) (ltb u 2048) where
  go : (a b c : Bool) → 0 < length (cond a (two_bytes 0) (cond b (u ∷ []) (cond c (two_bytes u) (three_bytes u))))
  go true b c = omega arith
  go false true c = omega arith
  go false false true = omega arith
  go false false false = omega arith

char_some : (c : ℕ) → 0 < length (modified_char c)
char_some c = elim (cases_lt c 65536) [
  | inl lt ↦ rw (char_one c lt) (unit_some c)
  | inr le ↦ rw (ne_eqb c 0 (λ h. omega (arith, h)), le-ltb c 128 (omega arith), le-ltb c 2048 (omega arith), le-ltb c 65536 le)
      (omega arith)
]

pub char_shorter : (bytes rest : List ℕ) (c : ℕ) → char_at bytes ≡ Some (c, rest) → length rest < length bytes
char_shorter bytes rest c e =
    let r = char_read bytes (c, rest) e in
    let n = char_some c in
    omega (arith, ap length r.0, length-append (modified_char c) rest)

abbrev AllRead : List ℕ → List ℕ × List ℕ → Type 0
AllRead bytes x = (bytes ≡ flat_map modified_char x.0) × (scalars x.0 ≡ true)

many_read : (n : ℕ) (bytes : List ℕ) (x : List ℕ × List ℕ) → many some_left char_at n bytes ≡ Some x → AllRead bytes x
unfolding many
many_read zero bytes x e = absurd (none_is_not x e)
many_read (suc n) [] x e = subst (AllRead []) (some_is ([], []) x e) (refl, refl)
many_read (suc n) (b ∷ bytes) x e =
    let c = bind_some (char_at (b ∷ bytes)) _ x e in
    let cs = bind_some (many some_left char_at n c.0.1) (λ xs. Some (c.0.0 ∷ xs.0, xs.1)) x c.2 in
    let one = char_read (b ∷ bytes) c.0 c.1 in
    let more = many_read n c.0.1 cs.0 cs.1 in
    subst (AllRead (b ∷ bytes)) (some_is (c.0.0 ∷ cs.0.0, cs.0.1) x cs.2) (
      one.0 ∙ ap (λ (w : List ℕ). modified_char c.0.0 ++ w) more.0,
      both_hold (scalar c.0.0) (scalars cs.0.0) one.1 more.1,
    )

many_given : (cs : List ℕ) (n : ℕ) → scalars cs ≡ true → length (flat_map modified_char cs) < n →
    many some_left char_at n (flat_map modified_char cs) ≡ Some (cs, [])
unfolding many
many_given [] zero s lt = absurd (omega arith)
many_given [] (suc n) s lt = refl
many_given (c ∷ cs) zero s lt = absurd (omega arith)
many_given (c ∷ cs) (suc n) s lt =
    let p = both (scalar c) (scalars cs) s in
    let size = length-append (modified_char c) (flat_map modified_char cs) in
    let some = char_some c in
    let left : some_left (modified_char c ++ flat_map modified_char cs) ≡ true = not_empty (modified_char c ++ flat_map modified_char cs)
    (omega arith) in
    rw (left, char_given c (flat_map modified_char cs) p.0, many_given cs n p.1 (omega arith)) refl

-- what is read as a text is one in modified UTF-8
pub letters_read : (bytes text : List ℕ) → letters bytes ≡ Some text → IsUtf8 text × (modified text ≡ bytes)
unfolding letters all_of modified
letters_read bytes text e =
    let cs = bind_some (many some_left char_at (suc (length bytes)) bytes) (λ x. Some (encode_utf8_all x.0)) text e in
    let r = many_read (suc (length bytes)) bytes cs.0 cs.1 in
    let is = some_is (encode_utf8_all cs.0.0) text cs.2 in (
      (cs.0.0, (r.1, is)),
      ap (λ t. flat_map modified_char (chars t)) (sym is) ∙ ap (flat_map modified_char) (chars-encodes cs.0.0 r.1) ∙
          sym r.0,
    )

-- each text is read
pub letters_given : (text : List ℕ) → IsUtf8 text → letters (modified text) ≡ Some text
unfolding letters all_of modified
letters_given text ok =
    rw (
      many_given (chars text) (suc (length (flat_map modified_char (chars text)))) (scalars-chars text ok) (omega arith),
      encodes-chars text ok,
    ) refl

-- the number of a character is that of a character
pub code_fits : (bytes rest : List ℕ) (c : ℕ) → char_at bytes ≡ Some (c, rest) → IsScalar c
code_fits bytes rest c e = (char_read bytes (c, rest) e).1

-- what was read of the bytes so far, and the rest
pub record Heard (text rest bytes : List ℕ) : Type 0 where
  pub cs : List ℕ
  pub spelled : text ≡ encode_utf8_all cs
  pub left : Left some_left char_at cs rest (all_of some_left char_at bytes)

module _ (bytes : List ℕ) where
  pub heard_first : (text : List ℕ) → text ≡ [] → Heard text bytes bytes
  heard_first text e = record { cs = []; spelled = e; left = Left-init some_left char_at bytes }

  pub heard_more : (text more rest after : List ℕ) (c : ℕ) → eqb (length rest) 0 ≡ false → char_at rest ≡ Some (c, after) →
      more ≡ text ++ encode c → Heard text rest bytes → Heard more after bytes
  heard_more text more rest after c some is e h = record {
    cs = h.cs ++ c ∷ [];
    spelled = e ∙ (ap (λ (t : List ℕ). t ++ encode c) h.spelled ∙
        (ap (λ (t : List ℕ). encode_utf8_all h.cs ++ t) (sym (append-nil (encode c))) ∙ sym (encodes-append h.cs (c ∷ []))));
    left = Left-more some_left char_at h.cs rest c after (all_of some_left char_at bytes)
        (not_empty rest (let k = eqb-false (length rest) 0 some in omega (arith, k))) is (char_shorter rest after c is) h.left;
  }

  pub heard_last : (text rest : List ℕ) → eqb (length rest) 0 ≡ true → Heard text rest bytes → letters bytes ≡ Some text
  unfolding letters
  heard_last text rest none h = rw (Left-done some_left char_at h.cs rest (all_of some_left char_at bytes) (empty rest none) h.left)
      (ap Some (sym h.spelled)) where
        empty : (rest : List ℕ) → eqb (length rest) 0 ≡ true → some_left rest ≡ false
        empty [] e = refl
        empty (b ∷ rest) e = absurd (let k = eqb-true (suc (length rest)) 0 e in omega (arith, k))

  pub heard_fails : (err : ReadError) (text rest : List ℕ) → eqb (length rest) 0 ≡ false → Fails err (char_at rest) → Heard text rest bytes
      → Fails err (letters bytes)
  unfolding letters
  heard_fails errors.Memory text rest some f h = tt
  heard_fails errors.Syntax text rest some f h =
      rw (Left-none some_left char_at h.cs rest (all_of some_left char_at bytes)
      (not_empty rest (let k = eqb-false (length rest) 0 some in omega (arith, k))) f h.left) refl
