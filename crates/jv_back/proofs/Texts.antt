-- Texts between quotes and numbers are told as they are printed.
use Rattle.std.proofs.Common.{◌≡◌, ℕ, zero, suc, ◌<◌, ◌≤◌, ◌⊎◌, inl, inr, List, [], ◌∷◌, ◌++◌, map, get_or, Bool, true, false, cond, eqb}
use Rattle.std.proofs.Common.{refl, sym, ap, subst, ◌∙◌, append_assoc, arith, codes}
use Rattle.std.specs.Prelude.{ℤ, pos, neg_ℤ}
use Rattle.std.specs.Char.{is_ascii_digit}
use Rattle.std.specs.Fmt.{decimal, signed_decimal}
use Rattle.std.specs.List.{flat_map}
use Rattle.std.specs.Str.{IsUtf8}
use Rattle.std.proofs.lemmas.Bool.{eqb-true}
use Rattle.std.proofs.lemmas.Bool.Decides.{nat_tests}
use Rattle.std.specs.List.{AllByRecursion}
use Rattle.std.proofs.lemmas.Fmt.{digits_decimal, first_decimal, decimal_digit}
use Rattle.std.proofs.lemmas.Str.{IsUtf8-append, IsUtf8-from_ascii}
use Rattle.mg_text.specs.Places.{place_after}
use Rattle.mg_text.specs.declared.place.Place.{Place}
use Rattle.mg_read.specs.Passes.{AllPasses, StopsAt, StartsWith}
use Rattle.jv_tree.specs.declared.token.Sign.TheVariants as signs
use Rattle.jv_tree.specs.declared.token.Token.{Token}
use Rattle.jv_tree.specs.Tokens as tokens
use Rattle.jv_tree.specs.Expressions.{IsNumber}
use Rattle.jv_lex.specs.Letters.{is_plain}
use Rattle.jv_lex.specs.Signs.{goes_on}
use Rattle.jv_lex.specs.Written.{Written, plain, escaped, spelled, meant, IsCharacter}
use Rattle.jv_lex.specs.Pieces.{Piece, number, text, spell, tokens_from}
use Rattle.jv_lex.proofs.Numbers.{own, below}
use Rattle.jv_lex.proofs.Utf8.{digit_low, passing_ascii, split_ascii}
use Rattle.jv_print.specs.Layout.{character, quoted_text}
use Rattle.jv_back.proofs.Told.{NoTail, Told, convert, sign_then, low_utf8}

-- ---- texts

-- a character as it is written, by which of those with escapes it is
abbrev pick : (a b d e f g h : Bool) → ℕ → Written
pick a b d e f g h c =
    cond a (escaped 98) (cond b (escaped 116) (cond d (escaped 110) (cond e (escaped 102) (cond f (escaped 114)
    (cond g (escaped 34) (cond h (escaped 92) (plain c)))))))

abbrev laid : (a b d e f g h : Bool) → ℕ → List ℕ
laid a b d e f g h c =
    cond a (codes "\\b") (cond b (codes "\\t") (cond d (codes "\\n") (cond e (codes "\\f") (cond f (codes "\\r")
    (cond g (codes "\\\"") (cond h (codes "\\\\") (c ∷ [])))))))

abbrev write : ℕ → Written
write c = pick (eqb c 8) (eqb c 9) (eqb c 10) (eqb c 12) (eqb c 13) (eqb c 34) (eqb c 92) c

-- what holds of a character, of what is written for it, and of its bytes
record Writes (c : ℕ) (w : Written) (bytes : List ℕ) : Type 0 where
  right : IsCharacter w
  means : meant w ≡ c
  spells : spelled (w ∷ []) ≡ bytes
  low : (bytes ≡ c ∷ []) ⊎ ((c < 128) × IsUtf8 bytes)

low_of : (c k : ℕ) → eqb c k ≡ true → k < 128 → c < 128
low_of c k e l = let same = eqb-true c k e in omega (arith, same, l)

plain_of : (c : ℕ) → eqb c 10 ≡ false → eqb c 13 ≡ false → eqb c 34 ≡ false → eqb c 92 ≡ false → is_plain c ≡ true
plain_of c a b d e = rw (a, b, d, e) refl

-- a character that is written by an escape
escape : (c k e : ℕ) (bytes : List ℕ) → eqb c k ≡ true → k < 128 → IsCharacter (escaped e) → meant (escaped e) ≡ k →
    spelled (escaped e ∷ []) ≡ bytes → IsUtf8 bytes → Writes c (escaped e) bytes
escape c k e bytes is low right means spells utf8 =
    record { right = right; means = means ∙ sym (eqb-true c k is); spells = spells; low = inr (low_of c k is low, utf8) }

written_as : (c : ℕ) → Writes c (write c) (character c)
written_as c = go (eqb c 8) (eqb c 9) (eqb c 10) (eqb c 12) (eqb c 13) (eqb c 34) (eqb c 92) refl refl refl refl refl refl refl
  where
    go : (a b d e f g h : Bool) → eqb c 8 ≡ a → eqb c 9 ≡ b → eqb c 10 ≡ d → eqb c 12 ≡ e → eqb c 13 ≡ f → eqb c 34 ≡ g → eqb c 92 ≡ h
        → Writes c (pick a b d e f g h c) (laid a b d e f g h c)
    go true b d e f g h ea eb ed ee ef eg eh = escape c 8 98 (codes "\\b") ea (omega arith)
        refl refl refl (low_utf8 (codes "\\b") refl)
    go false true d e f g h ea eb ed ee ef eg eh = escape c 9 116 (codes "\\t") eb (omega arith)
        refl refl refl (low_utf8 (codes "\\t") refl)
    go false false true e f g h ea eb ed ee ef eg eh = escape c 10 110 (codes "\\n") ed (omega arith)
        refl refl refl (low_utf8 (codes "\\n") refl)
    go false false false true f g h ea eb ed ee ef eg eh = escape c 12 102 (codes "\\f") ee (omega arith)
        refl refl refl (low_utf8 (codes "\\f") refl)
    go false false false false true g h ea eb ed ee ef eg eh = escape c 13 114 (codes "\\r") ef (omega arith)
        refl refl refl (low_utf8 (codes "\\r") refl)
    go false false false false false true h ea eb ed ee ef eg eh = escape c 34 34 (codes "\\\"") eg (omega arith)
        refl refl refl (low_utf8 (codes "\\\"") refl)
    go false false false false false false true ea eb ed ee ef eg eh = escape c 92 92 (codes "\\\\") eh (omega arith)
        refl refl refl (low_utf8 (codes "\\\\") refl)
    go false false false false false false false ea eb ed ee ef eg eh =
        record { right = plain_of c ed ef eg eh; means = refl; spells = refl; low = inl refl }

spelled_more : (w : Written) (ws : List Written) → spelled (w ∷ ws) ≡ spelled (w ∷ []) ++ spelled ws
spelled_more (plain c) ws = refl
spelled_more (escaped c) ws = refl

spells_text : (t : List ℕ) → spelled (map write t) ≡ flat_map character t
spells_text [] = refl
spells_text (c ∷ cs) =
    spelled_more (write c) (map write cs) ∙ ap (λ z. z ++ spelled (map write cs)) (written_as c).spells ∙ ap (λ z. character c ++ z)
    (spells_text cs)

means_text : (t : List ℕ) → map meant (map write t) ≡ t
means_text [] = refl
means_text (c ∷ cs) = ap (λ z. z ∷ map meant (map write cs)) (written_as c).means ∙ ap (λ z. c ∷ z) (means_text cs)

right_text : (t : List ℕ) → AllByRecursion IsCharacter (map write t)
right_text [] = tt
right_text (c ∷ cs) = ((written_as c).right, right_text cs)

-- escapes leave UTF-8 behind what is so
laid_utf8 : (xs t : List ℕ) → IsUtf8 (xs ++ t) → IsUtf8 (xs ++ flat_map character t)
laid_utf8 xs [] u = u
laid_utf8 xs (c ∷ cs) u =
    go (character c) (written_as c).low (λ s. laid_utf8 [] cs s)
    (laid_utf8 (xs ++ c ∷ []) cs (subst IsUtf8 (sym (append_assoc xs (c ∷ []) cs)) u))
  where
    go : (bytes : List ℕ) → (bytes ≡ c ∷ []) ⊎ ((c < 128) × IsUtf8 bytes) → (IsUtf8 cs → IsUtf8 (flat_map character cs))
        → IsUtf8 ((xs ++ c ∷ []) ++ flat_map character cs) → IsUtf8 (xs ++ (bytes ++ flat_map character cs))
    go bytes (inl e) rest same =
        subst (λ z. IsUtf8 (xs ++ (z ++ flat_map character cs))) (sym e)
        (subst IsUtf8 (append_assoc xs (c ∷ []) (flat_map character cs)) same)
    go bytes (inr (l, b)) rest same =
        let s = split_ascii xs cs c u l in
        IsUtf8-append xs (bytes ++ flat_map character cs) s.0 (IsUtf8-append bytes (flat_map character cs) b (rest s.1))

quote_utf8 : IsUtf8 (34 ∷ [])
quote_utf8 = low_utf8 (34 ∷ []) refl

pub text_told : {ok : List ℕ → Type 0} (t : List ℕ) → IsUtf8 t → Told ok (λ ts. (a : Place) × (ts ≡ tokens.quoted a t ∷ [])) (quoted_text t)
text_told t u = record {
  utf8 = IsUtf8-append (34 ∷ []) (flat_map character t ++ 34 ∷ []) quote_utf8
      (IsUtf8-append (flat_map character t) (34 ∷ []) (laid_utf8 [] t u) quote_utf8);
  reads = λ qs bytes o cut. record {
    pieces = text (map write t) ∷ qs;
    cut = (bytes, ap (λ z. (34 ∷ (z ++ 34 ∷ [])) ++ bytes) (sym (spells_text t)), right_text t, cut);
    tokens = λ p. record {
      end = place_after p (spell (text (map write t)));
      front = tokens.quoted p t ∷ [];
      parts = ap (λ z. tokens.quoted p z ∷ tokens_behind p qs) (means_text t);
      supported = (refl, tt);
      holds = (p, refl);
    };
  };
}
  where
    tokens_behind : Place → List Piece → List Token
    tokens_behind p qs = tokens_from (place_after p (spell (text (map write t)))) qs

-- ---- numbers

decimal_utf8 : (n : ℕ) → n ≤ 2147483648 → IsUtf8 (decimal n)
decimal_utf8 n l = IsUtf8-from_ascii (decimal n) (passing_ascii is_ascii_digit (decimal n) digit_low (digits_decimal own n (below n l)))

pub number_told : (n : ℕ) → n ≤ 2147483648 → Told NoTail (λ ts. (a : Place) × (ts ≡ tokens.number a n ∷ [])) (decimal n)
number_told n l = record {
  utf8 = decimal_utf8 n l;
  reads = λ qs bytes o cut. record {
    pieces = number n ∷ qs;
    cut = (bytes, refl, (l, o), cut);
    tokens = λ p. record {
      end = place_after p (decimal n);
      front = tokens.number p n ∷ [];
      parts = refl;
      supported = (refl, tt);
      holds = (p, refl);
    };
  };
}

minus_free : (c : ℕ) → is_ascii_digit c ≡ true → goes_on signs.Minus c ≡ false
minus_free c h =
    let a : eqb 45 c ≡ false = grind (arith, nat_tests) in let b : eqb 61 c ≡ false = grind (arith, nat_tests) in rw (a, b) refl

minus_stops : (n : ℕ) → 0 < n → n ≤ 2147483648 → (bytes : List ℕ) → StopsAt (goes_on signs.Minus) (decimal n ++ bytes)
minus_stops n some l bytes = go (decimal n) (digits_decimal own n (below n l)) (first_decimal n some (below n l))
  where
    go : (ds : List ℕ) → AllPasses is_ascii_digit ds → 48 < get_or ds 0 0 → StopsAt (goes_on signs.Minus) (ds ++ bytes)
    go [] h f = absurd (omega (arith, f))
    go (d ∷ ds) h f = minus_free d h.0

-- a number begins with a digit
pub digit_first : (n : ℕ) → n ≤ 2147483648 → StartsWith is_ascii_digit (decimal n)
digit_first zero l = let e : decimal 0 ≡ 48 ∷ [] = decimal_digit 0 (omega arith) in subst (StartsWith is_ascii_digit) (sym e) refl
digit_first (suc n) l =
    go (decimal (suc n)) (digits_decimal own (suc n) (below (suc n) l)) (first_decimal (suc n) (omega arith) (below (suc n) l))
  where
    go : (ds : List ℕ) → AllPasses is_ascii_digit ds → 48 < get_or ds 0 0 → StartsWith is_ascii_digit ds
    go [] h f = absurd (omega (arith, f))
    go (d ∷ ds) h f = h.0

-- which numbers are written
abbrev pub IsPrinted : ℤ → Type 0
IsPrinted z = ((n : ℕ) × (n ≤ 2147483647) × (z ≡ pos n)) ⊎ ((n : ℕ) × (n ≤ 2147483648) × (z ≡ neg_ℤ (pos n)))

positive : (n : ℕ) → n ≤ 2147483647 → Told NoTail (λ ts. (p : Place) × IsNumber p (pos n) ts) (decimal n)
positive n l = convert (λ ts h. (h.0, inl (n, l, refl, h.1))) (number_told n (omega (arith, l)))

negative : (n : ℕ) → n ≤ 2147483648 → Told NoTail (λ ts. (p : Place) × IsNumber p (neg_ℤ (pos n)) ts) (signed_decimal (neg_ℤ (pos n)))
negative zero l = positive 0 (omega arith)
negative (suc n) l =
    convert (λ ts h. (h.0, inr (suc n, h.3.0, l, refl, h.2 ∙ ap (λ us. tokens.sign h.0 signs.Minus ∷ us) h.3.1)))
    (sign_then signs.Minus refl (λ bytes o. minus_stops (suc n) (omega arith) l bytes) (number_told (suc n) l))

pub int_told : (z : ℤ) → IsPrinted z → Told NoTail (λ ts. (p : Place) × IsNumber p z ts) (signed_decimal z)
int_told z (inl (n, l, e)) = subst (λ y. Told NoTail (λ ts. (p : Place) × IsNumber p y ts) (signed_decimal y)) (sym e) (positive n l)
int_told z (inr (n, l, e)) = subst (λ y. Told NoTail (λ ts. (p : Place) × IsNumber p y ts) (signed_decimal y)) (sym e) (negative n l)
