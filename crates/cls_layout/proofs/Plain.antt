-- Bytes that are characters of their own spell themselves.
use Rattle.std.proofs.Common.{◌≡◌, ℕ, ◌<◌, List, [], ◌∷◌, ◌++◌, Some, refl, sym, ap, subst, ◌∙◌, true, arith}
use Rattle.std.specs.Prelude.{nat_lt}
use Rattle.std.specs.List.{list_all, flat_map}
use Rattle.std.specs.Str.{chars, IsAscii, IsUtf8}
use Rattle.std.proofs.lemmas.Bool.{and_parts, ltb-true, ne_eqb}
use Rattle.std.proofs.lemmas.Str.{chars-IsAscii, IsUtf8-from_ascii}
use Rattle.std.proofs.lemmas.Str.Ascii.{IsAscii-nil, IsAscii-cons}
use Rattle.cls_tree.specs.Modified.{modified_char, modified}
use Rattle.cls_layout.specs.Letters.{is_plain, letters}
use Rattle.cls_layout.proofs.Modified.{letters_given}

plain_ascii : (bytes : List ℕ) → list_all is_plain bytes ≡ true → IsAscii bytes
plain_ascii [] e = IsAscii-nil
plain_ascii (b ∷ bytes) e =
    let p = and_parts (is_plain b) (list_all is_plain bytes) e in
    IsAscii-cons b bytes (ltb-true b 128 (and_parts (nat_lt 0 b) (nat_lt b 128) p.0).1) (plain_ascii bytes p.1)

each_is : (bytes : List ℕ) → list_all is_plain bytes ≡ true → flat_map modified_char bytes ≡ bytes
each_is [] e = refl
each_is (b ∷ bytes) e =
    let p = and_parts (is_plain b) (list_all is_plain bytes) e in
    let q = and_parts (nat_lt 0 b) (nat_lt b 128) p.0 in
    let some : 0 < b = ltb-true 0 b q.0 in
    rw (ne_eqb b 0 (λ h. omega (arith, h, some)), q.1) (ap (λ rest. b ∷ rest) (each_is bytes p.1))

modified_is : (bytes : List ℕ) → list_all is_plain bytes ≡ true → modified bytes ≡ bytes
unfolding modified
modified_is bytes e = ap (flat_map modified_char) (chars-IsAscii bytes (plain_ascii bytes e)) ∙ each_is bytes e

pub plain_utf8 : (bytes : List ℕ) → list_all is_plain bytes ≡ true → IsUtf8 bytes
plain_utf8 bytes e = IsUtf8-from_ascii bytes (plain_ascii bytes e)

pub plain_letters : (bytes : List ℕ) → list_all is_plain bytes ≡ true → letters bytes ≡ Some bytes
plain_letters bytes e =
    subst (λ (b : List ℕ). letters b ≡ Some bytes) (modified_is bytes e) (letters_given bytes (plain_utf8 bytes e))
