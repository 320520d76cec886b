-- Names that are generated are words of Java, and none that it reserves.
use Rattle.std.proofs.Common.{◌≡◌, ℕ, zero, suc, ◌+◌, ◌%◌, ◌/◌, ◌<◌, ◌≤◌, List, [], ◌∷◌, ◌++◌, Bool, true, false, refl, sym, ap, subst, ◌∙◌}
use Rattle.std.proofs.Common.{append_assoc, codes, arith}
use Rattle.std.specs.Prelude.{Contains, ◌==◌, ◌||◌, ◌&&◌, not, nat_lt, if◌then◌else◌}
use Rattle.std.specs.Char.{is_ascii_digit}
use Rattle.std.specs.Fmt.{decimal, digits, digits_onto, digit_glyph}
use Rattle.std.specs.List.{list_any, list_all}
use Rattle.std.specs.Str.{bytes_eq, IsUtf8}
use Rattle.std.proofs.lemmas.Bool.Decides.{nat_tests}
use Rattle.std.proofs.lemmas.Map.Views.{Contains-from_any}
use Rattle.std.proofs.lemmas.Slice.Eq.{bytes_eq-Decides}
use Rattle.std.proofs.lemmas.Str.{IsUtf8-from_ascii}
use Rattle.mg_text.specs.Call.{Name}
use Rattle.mg_text.specs.JavaWords.{java_words}
use Rattle.mg_read.specs.Letters.{is_name_start, is_name_byte}
use Rattle.mg_read.specs.Passes.{AllPasses, StartsWith}
use Rattle.scr_tree.specs.Words.{IsName as IsRoleName}
use Rattle.jv_tree.specs.Tokens.{reserved, unsupported, is_among, is_name, IsName}
use Rattle.jv_lex.specs.Letters.{is_word_start, is_word_byte}
use Rattle.jv_lex.proofs.Utf8.{word_low, passing_ascii}
use Rattle.jv_back.proofs.Told.{IsNamed}

-- ---- truth values

or_left : (a b : Bool) → a ≡ true → (a || b) ≡ true
or_left true b e = refl
or_left false b e = absurd cc

or_right : (a b : Bool) → b ≡ true → (a || b) ≡ true
or_right true b e = refl
or_right false b e = e

or_false : (a b : Bool) → (a || b) ≡ false → (a ≡ false) × (b ≡ false)
or_false true b e = absurd cc
or_false false b e = (refl, e)

and_true : (a b : Bool) → (a && b) ≡ true → (a ≡ true) × (b ≡ true)
and_true true b e = (refl, e)
and_true false b e = absurd cc

-- ---- bytes

wider : (a b d : Bool) → (a || d) ≡ true → ((a || b) || d) ≡ true
wider true b d e = refl
wider false true d e = refl
wider false false d e = e

pub word_bytes : (cs : List ℕ) → AllPasses is_name_byte cs → AllPasses is_word_byte cs
word_bytes [] h = tt
word_bytes (c ∷ cs) h = (wider (is_name_start c) (c == 36) (is_ascii_digit c) h.0, word_bytes cs h.1)

word_start : (cs : List ℕ) → StartsWith is_name_start cs → StartsWith is_word_start cs
word_start [] h = absurd h
word_start (c ∷ cs) h = or_left (is_name_start c) (c == 36) h

pub passes_both : (p : ℕ → Bool) (xs ys : List ℕ) → AllPasses p xs → AllPasses p ys → AllPasses p (xs ++ ys)
passes_both p [] ys h g = g
passes_both p (x ∷ xs) ys h g = (h.0, passes_both p xs ys h.1 g)

starts_before : (p : ℕ → Bool) (xs ys : List ℕ) → StartsWith p xs → StartsWith p (xs ++ ys)
starts_before p [] ys h = absurd h
starts_before p (x ∷ xs) ys h = h

-- ---- numbers

is_digit : (c : ℕ) → 48 ≤ c → c ≤ 57 → is_ascii_digit c ≡ true
is_digit c h g = grind (arith, nat_tests)

glyph : (d : ℕ) → d < 10 → digit_glyph false d ≡ 48 + d
glyph d h = let e : nat_lt d 10 ≡ true = grind (arith, nat_tests) in rw e refl

digit_passes : (n : ℕ) → is_word_byte (digit_glyph false (n % 10)) ≡ true
digit_passes n =
    let low : n % 10 < 10 = omega arith in
    let c : ℕ = 48 + n % 10 in
    subst (λ d. is_word_byte d ≡ true) (sym (glyph (n % 10) low))
    (or_right (is_word_start c) (is_ascii_digit c) (is_digit c (omega arith) (omega (arith, low))))

either_passes : (p : ℕ → Bool) (b : Bool) (xs ys : List ℕ) → AllPasses p xs → AllPasses p ys → AllPasses p (if b then xs else ys)
either_passes p true xs ys h g = h
either_passes p false xs ys h g = g

digits_pass : (k n : ℕ) (acc : List ℕ) → AllPasses is_word_byte acc → AllPasses is_word_byte (digits_onto k 10 false n acc)
digits_pass zero n acc h = h
digits_pass (suc k) n acc h =
    let more : AllPasses is_word_byte (digit_glyph false (n % 10) ∷ acc) = (digit_passes n, h) in
    either_passes is_word_byte (n / 10 == 0) (digit_glyph false (n % 10) ∷ acc)
    (digits_onto k 10 false (n / 10) (digit_glyph false (n % 10) ∷ acc)) more (digits_pass k (n / 10) (digit_glyph false (n % 10) ∷ acc)
    more)

pub number_bytes : (n : ℕ) → AllPasses is_word_byte (decimal n)
unfolding digits
number_bytes n = digits_pass 64 n [] tt

-- ---- what Java reserves

-- a byte that no reserved word has, since they are of small letters alone
abbrev pub is_mark : ℕ → Bool
is_mark c = nat_lt c 97

abbrev pub is_marked : Name → Bool
is_marked w = list_any is_mark w

after : {A : Type 0} (f : A → Bool) (xs ys : List A) → list_any f ys ≡ true → list_any f (xs ++ ys) ≡ true
after f [] ys h = h
after f (x ∷ xs) ys h = or_right (f x) (list_any f (xs ++ ys)) (after f xs ys h)

before : {A : Type 0} (f : A → Bool) (xs ys : List A) → list_any f xs ≡ true → list_any f (xs ++ ys) ≡ true
before f [] ys h = absurd cc
before f (x ∷ xs) ys h = go (f x) (list_any f xs) (list_any f (xs ++ ys)) (before f xs ys) h
  where
    go : (a b d : Bool) → (b ≡ true → d ≡ true) → (a || b) ≡ true → (a || d) ≡ true
    go true b d k e = refl
    go false b d k e = k e

-- none of these words is marked
abbrev AreUnmarked : List Name → Type 0
AreUnmarked [] = Unit {0}
AreUnmarked (v ∷ vs) = (is_marked v ≡ false) × AreUnmarked vs

neither : (a b : Bool) → a ≡ false → b ≡ false → (a || b) ≡ false
neither true b e f = absurd cc
neither false b e f = f

other_word : (v w : Name) → is_marked v ≡ false → is_marked w ≡ true → bytes_eq v w ≡ false
other_word v w h g = go (bytes_eq v w) refl
  where
    go : (b : Bool) → bytes_eq v w ≡ b → bytes_eq v w ≡ false
    go false e = e
    go true e = let same : v ≡ w = (bytes_eq-Decides v w).0 e in
        let f : false ≡ true = sym h ∙ ap is_marked same ∙ g in absurd cc

among_none : (vs : List Name) (w : Name) → AreUnmarked vs → is_marked w ≡ true → is_among vs w ≡ false
among_none [] w h g = refl
among_none (v ∷ vs) w h g = neither (bytes_eq v w) (is_among vs w) (other_word v w h.0 g) (among_none vs w h.1 g)

unmarked : (vs : List Name) → list_any is_marked vs ≡ false → AreUnmarked vs
unmarked [] e = tt
unmarked (v ∷ vs) e = let h = or_false (is_marked v) (list_any is_marked vs) e in (h.0, unmarked vs h.1)

words_unmarked : AreUnmarked (reserved ++ unsupported)
words_unmarked = unmarked (reserved ++ unsupported) refl

free : (b : Bool) → b ≡ false → not b ≡ true
free true e = absurd cc
free false e = refl

unreserved : (w : Name) → is_among (reserved ++ unsupported) w ≡ false → IsName w
unfolding is_name
unreserved w e = free (is_among (reserved ++ unsupported) w) e

pub marked_name : (w : Name) → is_marked w ≡ true → IsName w
marked_name w h = unreserved w (among_none (reserved ++ unsupported) w words_unmarked h)

-- ---- names

pub all_pass : (cs : List ℕ) → list_all is_word_byte cs ≡ true → AllPasses is_word_byte cs
all_pass [] e = tt
all_pass (c ∷ cs) e = let h = and_true (is_word_byte c) (list_all is_word_byte cs) e in (h.0, all_pass cs h.1)

-- a word that a role's name begins, with a mark behind it
pub with_mark : (me rest : Name) → IsRoleName me → is_marked rest ≡ true → AllPasses is_word_byte rest → IsNamed (me ++ rest)
with_mark me rest h marked bytes = record {
  name = marked_name (me ++ rest) (after is_mark me rest marked);
  starts = starts_before is_word_start me rest (word_start me h.starts);
  bytes = passes_both is_word_byte me rest (word_bytes me h.bytes) bytes;
}

pub role_class : (me : Name) → IsRoleName me → IsNamed (me ++ codes "Role")
role_class me h = with_mark me (codes "Role") h refl (all_pass (codes "Role") refl)

pub choice_class : (me : Name) (n : ℕ) → IsRoleName me → IsNamed (me ++ codes "Choice" ++ decimal n)
choice_class me n h =
    subst IsNamed (sym (append_assoc me (codes "Choice") (decimal n)))
    (with_mark me (codes "Choice" ++ decimal n) h refl
    (passes_both is_word_byte (codes "Choice") (decimal n) (all_pass (codes "Choice") refl) (number_bytes n)))

-- a text of a role's name
pub name_utf8 : (w : Name) → AllPasses is_word_byte w → IsUtf8 w
name_utf8 w h = IsUtf8-from_ascii w (passing_ascii is_word_byte w word_low h)

pub role_utf8 : (w : Name) → IsRoleName w → IsUtf8 w
role_utf8 w h = name_utf8 w (word_bytes w h.bytes)

-- a label that Java doesn't reserve
pub label_named : (w : Name) → IsRoleName w → (Contains java_words w → ⊥) → IsNamed w
label_named w h unlisted = record {
  name = unreserved w (go (is_among java_words w) refl);
  starts = word_start w h.starts;
  bytes = word_bytes w h.bytes;
}
  where
    go : (b : Bool) → is_among java_words w ≡ b → is_among (reserved ++ unsupported) w ≡ false
    go true e = absurd (unlisted (Contains-from_any {eq = λ x y. bytes_eq y x} (λ x y s. sym ((bytes_eq-Decides y x).0 s)) w java_words e))
    go false e = e

-- a word that is spelled out
pub fixed : (w : Name) → is_among (reserved ++ unsupported) w ≡ false → StartsWith is_word_start w → list_all is_word_byte w ≡ true
    → IsNamed w
fixed w n s b = record { name = unreserved w n; starts = s; bytes = all_pass w b }

-- a choice's enum isn't named as the type of texts
pub no_string : (me : Name) (n : ℕ) → me ++ codes "Choice" ++ decimal n ≡ codes "String" → ⊥
no_string me n e =
    let inside : list_any is_capital (me ++ codes "Choice" ++ decimal n) ≡ true =
    before is_capital (me ++ codes "Choice") (decimal n) (after is_capital me (codes "Choice") refl) in
    let f : true ≡ false = sym inside ∙ ap (list_any is_capital) e in cc
  where
    is_capital : ℕ → Bool
    is_capital c = c == 67

pub text_utf8 : (me : Name) → IsRoleName me → IsUtf8 (me ++ codes "Protocol")
text_utf8 me h =
    name_utf8 (me ++ codes "Protocol")
    (passes_both is_word_byte me (codes "Protocol") (word_bytes me h.bytes) (all_pass (codes "Protocol") refl))
