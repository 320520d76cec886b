-- A text is written character by character, and laid out byte by byte.
use Rattle.std.proofs.Common.{◌≡◌, ℕ, suc, ◌<◌, ◌≤◌, List, map, [], ◌∷◌, ◌++◌, length, get_or, inl, inr, refl, sym, ap, ap₂, ◌∙◌, arith}
use Rattle.std.proofs.Common.{append_assoc, append-nil}
use Rattle.std.proofs.lemmas.Bool.{cases_lt}
use Rattle.std.proofs.lemmas.List.{map-id}
use Rattle.std.proofs.lemmas.Bool.Decides.{nat_tests}
use Rattle.std.proofs.lemmas.Str.{encode_ascii, inside_one, encodes-append, encodes-chars}
use Rattle.std.specs.Str.{chars, IsUtf8}
use Rattle.std.proofs.lemmas.Grind.{flat_map-append}
use Rattle.std.specs.List.{flat_map}
use lib.Utf8.{encode, encodes}
use Rattle.jv_print.specs.Layout.{character}

-- a character that has no escape
pub plain : (c : ℕ) → (c ≡ 8 → ⊥) → (c ≡ 9 → ⊥) → (c ≡ 10 → ⊥) → (c ≡ 12 → ⊥) → (c ≡ 13 → ⊥) → (c ≡ 34 → ⊥) → (c ≡ 92 → ⊥) →
    character c ≡ c ∷ []
plain c a b d e f g h = grind (arith, nat_tests)

-- bytes that are no ASCII have none
high : (bs : List ℕ) → ((k : ℕ) → k < length bs → 128 ≤ get_or bs k 0) → flat_map character bs ≡ bs
high [] h = refl
high (b ∷ bs) h =
    let big : 128 ≤ b = h 0 (omega arith) in
    ap₂ (λ (x y : List ℕ). x ++ y) (plain b (λ e. omega arith) (λ e. omega arith) (λ e. omega arith) (λ e. omega arith) (λ e. omega arith)
    (λ e. omega arith) (λ e. omega arith))
    (high bs (λ k below. h (suc k) (omega arith)))

high_char : (c : ℕ) → 128 ≤ c → flat_map character (encode c) ≡ encode c
high_char c big = high (encode c) (λ k below. elim (cases_lt (get_or (encode c) k 0) 128) [
  | inl low ↦ absurd (omega (arith, inside_one c [] (encode c) k (sym (append-nil _)) below low))
  | inr h ↦ h
])

-- an ASCII character is laid out as its one byte
pub low_char : (c : ℕ) → c < 128 → flat_map character (encode c) ≡ character c
low_char c small = ap (flat_map character) (encode_ascii c small) ∙ append-nil (character c)

-- a character without an escape is laid out as it is
pub plain_char : (c : ℕ) → (c ≡ 8 → ⊥) → (c ≡ 9 → ⊥) → (c ≡ 10 → ⊥) → (c ≡ 12 → ⊥) → (c ≡ 13 → ⊥) → (c ≡ 34 → ⊥) → (c ≡ 92 → ⊥) →
    flat_map character (encode c) ≡ encode c
plain_char c a b d e f g h = elim (cases_lt c 128) [
  | inl small ↦ low_char c small ∙ (plain c a b d e f g h ∙ sym (encode_ascii c small))
  | inr big ↦ high_char c big
]

-- one character more is written
pub one_more : (out : List ℕ) (cs : List ℕ) (c : ℕ) → (out ++ flat_map character (encodes cs)) ++ flat_map character (encode c) ≡ out
    ++ flat_map character (encodes (cs ++ c ∷ []))
one_more out cs c =
    append_assoc out _ _
    ∙ ap (λ x. out ++ x) (sym (flat_map-append character (encodes cs) (encode c)) ∙ ap (flat_map character)
    (ap (λ x. encodes cs ++ x) (sym (append-nil (encode c))) ∙ sym (encodes-append cs (c ∷ []))))

-- all characters are written, and stand between quotes
pub all_written : (o1 o2 o3 o cs text quote : List ℕ) → IsUtf8 text → map (λ c. c) cs ≡ chars text → o1 ≡ o ++ quote →
    o2 ≡ o1 ++ flat_map character (encodes cs) → o3 ≡ o2 ++ quote →
    o3 ≡ o ++ (quote ++ (flat_map character text ++ quote))
all_written o1 o2 o3 o cs text quote u all e1 e2 e3 =
    e3 ∙ ap (λ x. x ++ quote) (e2 ∙ ap (λ x. x ++ flat_map character (encodes cs)) e1) ∙
    ap (λ x. ((o ++ quote) ++ flat_map character x) ++ quote) (ap encodes (sym (map-id cs) ∙ all) ∙ encodes-chars text u)
    ∙ append_assoc (o ++ quote) _ quote ∙ append_assoc o quote _
