-- What a search for a byte finds.
use Rattle.std.proofs.Common.{◌≡◌, ◌≢◌, ℕ, zero, suc, ◌+◌, ◌-◌, ◌<◌, ◌≤◌, min, List, [], ◌∷◌, ◌++◌, length, get_or, take, drop, Bool, true}
use Rattle.std.proofs.Common.{false, ◌==◌, refl, sym, ap, ◌∙◌, subst, arith, length-take, take-append-drop}
use Rattle.std.proofs.lemmas.Bool.Decides.{nat_tests}
use Rattle.std.proofs.lemmas.List.{get_or-take, get_or_push, length_push, length-take-le, take_all, drop_more}
use Rattle.std.specs.Str.{NonePass}
use Rattle.memchr.specs.Find.{Nowhere, NoneBefore, Passes, is_byte}
use Rattle.lsp_frames.specs.Fields.{is_feed, IsField}
use Rattle.lsp_frames.specs.Reading.{IsCut, wants, over, bare, line}

not_true : (b : Bool) → ¬ (b ≡ true) → b ≡ false
not_true true h = absurd (h refl)
not_true false h = refl

is_same : (b k : ℕ) → (b == k) ≡ true → b ≡ k
is_same b k h = grind (arith, nat_tests)

-- none of the first bytes passes the test
pub none_below : (p : ℕ → Bool) (xs : List ℕ) (n : ℕ) → n ≤ length xs → ((k : ℕ) → k < n → p (get_or xs k 0) ≡ false) → NonePass p (take n xs)
none_below p xs zero le h = tt
none_below p [] (suc n) le h = tt
none_below p (x ∷ xs) (suc n) le h = (h 0 (omega arith), none_below p xs n (omega arith) (λ k less. h (suc k) (omega arith)))

none_whole : (p : ℕ → Bool) (xs : List ℕ) → ((k : ℕ) → k < length xs → p (get_or xs k 0) ≡ false) → NonePass p xs
none_whole p [] h = tt
none_whole p (x ∷ xs) h = (h 0 (omega arith), none_whole p xs (λ k less. h (suc k) (omega arith)))

pub nowhere : (b : ℕ) (xs : List ℕ) → Nowhere (Passes (is_byte b) xs) 0 (length xs) → NonePass (is_byte b) xs
nowhere b xs h = none_whole (is_byte b) xs (λ k less. not_true (is_byte b (get_or xs k 0)) (h k (omega arith) less))

-- the bytes up to the first of this value, and behind it
pub record Found (b : ℕ) (bytes : List ℕ) (at : ℕ) : Type 0 where
  pub spells : bytes ≡ take at bytes ++ (b ∷ drop (at + 1) bytes)
  pub plain : NonePass (is_byte b) (take at bytes)
  pub long : length (take at bytes) ≡ at
  pub within : at < length bytes

found_at : (b : ℕ) (bytes : List ℕ) (at : ℕ) → at < length bytes → is_byte b (get_or bytes at 0) ≡ true →
    ((k : ℕ) → k < at → is_byte b (get_or bytes k 0) ≡ false) → Found b bytes at
found_at b bytes at less here before =
    let is : get_or bytes at 0 ≡ b = is_same (get_or bytes at 0) b here in
    record {
      spells = sym (take-append-drop at bytes) ∙ ap (λ (zs : List ℕ). take at bytes ++ zs) (drop_more bytes at 0 less
          ∙ ap (λ (z : ℕ). z ∷ drop (at + 1) bytes) is);
      plain = none_below (is_byte b) bytes at (omega arith) before;
      long = length-take-le at bytes (omega arith);
      within = less;
    }

-- a search of the whole
pub found : (b : ℕ) (bytes : List ℕ) (at : ℕ) → NoneBefore (Passes (is_byte b) bytes) 0 (length bytes) at → Passes (is_byte b) bytes at →
    Found b bytes at
found b bytes at none here =
    found_at b bytes at none.high here (λ k less. not_true (is_byte b (get_or bytes k 0)) (none.before k (omega arith) less))

-- a search of the first bytes
pub found_within : (b m : ℕ) (bytes : List ℕ) (at : ℕ) → NoneBefore (Passes (is_byte b) (take m bytes)) 0 (length (take m bytes)) at →
    Passes (is_byte b) (take m bytes) at → Found b bytes at × (at < m)
found_within b m bytes at none here =
    let high : at < length (take m bytes) = none.high in
    let long : length (take m bytes) ≡ min m (length bytes) = length-take m bytes in
    let less : at < m = omega arith in
    let same : get_or (take m bytes) at 0 ≡ get_or bytes at 0 = get_or-take m bytes at 0 less in
    let is : is_byte b (get_or bytes at 0) ≡ true = subst (λ (z : ℕ). is_byte b z ≡ true) same here in (
      found_at b bytes at (omega arith) is (λ k below.
          subst (λ (z : ℕ). is_byte b z ≡ false) (get_or-take m bytes k 0 (omega arith))
          (not_true (is_byte b (get_or (take m bytes) k 0)) (none.before k (omega arith) below))),
      less,
    )

-- no line feed in the window
pub is_wants : (bytes : List ℕ) (room m : ℕ) → m ≡ min (length bytes) room → Nowhere (Passes (is_byte 10) (take m bytes)) 0 (length (take m bytes)) →
    length bytes < room → IsCut room bytes wants
is_wants bytes room m e h less =
    let whole : take m bytes ≡ bytes = take_all m bytes (omega (arith, e)) in
    (subst (NonePass is_feed) whole (nowhere 10 (take m bytes) h), less)

pub is_over : (bytes : List ℕ) (room m : ℕ) → m ≡ min (length bytes) room → Nowhere (Passes (is_byte 10) (take m bytes)) 0 (length (take m bytes)) →
    room ≤ length bytes → IsCut room bytes over
is_over bytes room m e h le =
    let same : m ≡ room = omega (arith, e) in
    (subst (λ (z : ℕ). NonePass is_feed (take z bytes)) same (nowhere 10 (take m bytes) h), le)

-- a list that ends with this byte has it in its last place
no_last : {A : Type 0} (bytes shorter : List ℕ) (at : ℕ) → length (take at bytes) ≡ at → (0 < at → get_or bytes (at - 1) 0 ≢ 13) →
    take at bytes ≡ shorter ++ 13 ∷ [] → A
no_last bytes shorter at long not e =
    let size : length (take at bytes) ≡ length (shorter ++ 13 ∷ []) = ap length e in
    let more : length (shorter ++ 13 ∷ []) ≡ length shorter + 1 = length_push shorter 13 in
    let place : length shorter ≡ at - 1 = omega (arith, size, more, long) in
    let last : get_or (shorter ++ 13 ∷ []) (at - 1) 0 ≡ 13 = get_or_push shorter 13 0 (at - 1) place in
    let same : get_or (take at bytes) (at - 1) 0 ≡ get_or bytes (at - 1) 0 = get_or-take at bytes (at - 1) 0 (omega (arith, size, more, long)) in
    absurd (not (omega (arith, size, more, long)) (sym same ∙ ap (λ (zs : List ℕ). get_or zs (at - 1) 0) e ∙ last))

pub is_bare : (bytes : List ℕ) (room m at : ℕ) → m ≡ min (length bytes) room →
    NoneBefore (Passes (is_byte 10) (take m bytes)) 0 (length (take m bytes)) at → Passes (is_byte 10) (take m bytes) at →
    (0 < at → get_or bytes (at - 1) 0 ≢ 13) → IsCut room bytes bare
is_bare bytes room m at e none here not =
    let f = found_within 10 m bytes at none here in
    let long : length (take at bytes) ≡ at = f.0.long in
    let below : at < m = f.1 in
    (take at bytes, drop (at + 1) bytes, f.0.spells, f.0.plain, omega (arith, e), λ shorter same. no_last bytes shorter at long not same)

pub is_line : (bytes : List ℕ) (room m at : ℕ) → m ≡ min (length bytes) room →
    NoneBefore (Passes (is_byte 10) (take m bytes)) 0 (length (take m bytes)) at → Passes (is_byte 10) (take m bytes) at →
    0 < at → get_or bytes (at - 1) 0 ≡ 13 → IsCut room bytes (line (take (at - 1) bytes) (drop (at - 1 + 2) bytes))
is_line bytes room m at e none here some is =
    let f = found_within 10 m bytes at none here in
    let below : at < m = f.1 in
    let within : at < length bytes = f.0.within in
    let n : ℕ = at - 1 in
    let feed : drop at bytes ≡ 10 ∷ drop (at + 1) bytes = after_found bytes at f.0 in
    let both : drop n bytes ≡ 13 ∷ 10 ∷ drop (n + 2) bytes =
    drop_more bytes n 0 (omega arith) ∙ ap (λ (z : ℕ). z ∷ drop (n + 1) bytes) is
    ∙ ap (λ (z : ℕ). 13 ∷ drop z bytes) (omega arith) ∙ ap (λ (zs : List ℕ). 13 ∷ zs) feed
    ∙ ap (λ (z : ℕ). 13 ∷ 10 ∷ drop z bytes) (omega arith) in
    let long : length (take n bytes) ≡ n = length-take-le n bytes (omega arith) in (
      sym (take-append-drop n bytes) ∙ ap (λ (zs : List ℕ). take n bytes ++ zs) both,
      none_below is_feed bytes n (omega arith) (λ k less. plain_at bytes at f.0 k (omega arith)),
      omega (arith, e, long),
    ) where
      after_found : (bytes : List ℕ) (at : ℕ) → Found 10 bytes at → drop at bytes ≡ 10 ∷ drop (at + 1) bytes
      after_found bytes at f =
          ap (drop at) f.spells ∙ seam (take at bytes) (10 ∷ drop (at + 1) bytes) at f.long where
            seam : (p q : List ℕ) (n : ℕ) → length p ≡ n → drop n (p ++ q) ≡ q
            seam [] q zero e = refl
            seam [] q (suc n) e = absurd (omega (arith, e))
            seam (x ∷ p) q zero e = absurd (omega (arith, e))
            seam (x ∷ p) q (suc n) e = seam p q n (omega (arith, e))

      plain_below : (xs : List ℕ) (k : ℕ) → k < length xs → NonePass is_feed xs → is_feed (get_or xs k 0) ≡ false
      plain_below [] k less h = absurd (omega arith)
      plain_below (x ∷ xs) zero less h = h.0
      plain_below (x ∷ xs) (suc k) less h = plain_below xs k (omega arith) h.1

      plain_at : (bytes : List ℕ) (at : ℕ) → Found 10 bytes at → (k : ℕ) → k < at → is_feed (get_or bytes k 0) ≡ false
      plain_at bytes at f k less =
          let long : length (take at bytes) ≡ at = f.long in
          subst (λ (z : ℕ). is_feed z ≡ false) (get_or-take at bytes k 0 less) (plain_below (take at bytes) k (omega arith) f.plain)

-- a field, cut at its first colon
pub field_at : (bytes : List ℕ) (at : ℕ) → Found 58 bytes at → IsField bytes (take at bytes) (drop (at + 1) bytes)
field_at bytes at f = record { spells = f.spells; plain = f.plain }

pub not_empty : (xs : List ℕ) → (length xs == 0) ≡ false → 0 < length xs
not_empty [] h = absurd (cc)
not_empty (x ∷ xs) h = omega arith
