-- A sentence is written character by character, and filled byte by byte.
use Rattle.std.proofs.Common.{◌≡◌, ℕ, suc, ◌<◌, ◌≤◌, List, map, [], ◌∷◌, ◌++◌, length, get_or, inl, inr, refl, sym, ap, ap₂, ◌∙◌, arith}
use Rattle.std.proofs.Common.{append_assoc, append-nil}
use Rattle.std.proofs.lemmas.Bool.{cases_lt}
use Rattle.std.proofs.lemmas.List.{map-id}
use Rattle.std.proofs.lemmas.Bool.Decides.{nat_tests}
use Rattle.std.proofs.lemmas.Str.{encode_ascii, inside_one, encodes-append, encodes-chars}
use Rattle.std.specs.Str.{chars, IsUtf8}
use Rattle.std.proofs.lemmas.Grind.{flat_map-append}
use Rattle.std.specs.List.{flat_map}
use lib.Utf8.{encode, encodes}
use Rattle.lsp_sentences.specs.Sentences.{put_for}

module _ (word state : List ℕ) where
  abbrev put : ℕ → List ℕ
  put = put_for word state

  -- a character that stands for nothing
  plain : (c : ℕ) → (c ≡ 64 → ⊥) → (c ≡ 35 → ⊥) → put c ≡ c ∷ []
  plain c a b = grind (arith, nat_tests)

  -- bytes that are no ASCII stand for nothing
  high : (bs : List ℕ) → ((k : ℕ) → k < length bs → 128 ≤ get_or bs k 0) → flat_map put bs ≡ bs
  high [] h = refl
  high (b ∷ bs) h =
      let big : 128 ≤ b = h 0 (omega arith) in
      ap₂ (λ (x y : List ℕ). x ++ y) (plain b (λ e. omega arith) (λ e. omega arith)) (high bs (λ k below. h (suc k) (omega arith)))

  high_char : (c : ℕ) → 128 ≤ c → flat_map put (encode c) ≡ encode c
  high_char c big = high (encode c) (λ k below. elim (cases_lt (get_or (encode c) k 0) 128) [
    | inl low ↦ absurd (omega (arith, inside_one c [] (encode c) k (sym (append-nil _)) below low))
    | inr h ↦ h
  ])

  low_char : (c : ℕ) → c < 128 → flat_map put (encode c) ≡ put c
  low_char c small = ap (flat_map put) (encode_ascii c small) ∙ append-nil (put c)

  -- a character that stands for nothing is written as it is
  pub plain_char : (c : ℕ) → (c ≡ 64 → ⊥) → (c ≡ 35 → ⊥) → flat_map put (encode c) ≡ encode c
  plain_char c a b = elim (cases_lt c 128) [
    | inl small ↦ low_char c small ∙ (plain c a b ∙ sym (encode_ascii c small))
    | inr big ↦ high_char c big
  ]

  -- one character more is written
  pub one_more : (out : List ℕ) (cs : List ℕ) (c : ℕ) → (out ++ flat_map put (encodes cs)) ++ flat_map put (encode c)
      ≡ out ++ flat_map put (encodes (cs ++ c ∷ []))
  one_more out cs c =
      append_assoc out _ _
      ∙ ap (λ x. out ++ x) (sym (flat_map-append put (encodes cs) (encode c)) ∙ ap (flat_map put)
      (ap (λ x. encodes cs ++ x) (sym (append-nil (encode c))) ∙ sym (encodes-append cs (c ∷ []))))

  -- all are
  pub all_written : (out old cs text : List ℕ) → IsUtf8 text → map (λ c. c) cs ≡ chars text → out ≡ old ++ flat_map put (encodes cs) →
      out ≡ old ++ flat_map put text
  all_written out old cs text u all e =
      e ∙ ap (λ x. old ++ flat_map put x) (ap encodes (sym (map-id cs) ∙ all) ∙ encodes-chars text u)
