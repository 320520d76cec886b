-- ASCII texts without the character 0 stand in modified UTF-8 as they are.
use Rattle.std.proofs.Common.{◌≡◌, ℕ, ◌<◌, true, false, List, [], ◌∷◌, refl, ap, ◌∙◌, arith}
use Rattle.std.specs.Prelude.{nat_lt, ◌==◌}
use Rattle.std.specs.List.{AllByRecursion}
use Rattle.std.specs.Str.{chars}
use Rattle.std.proofs.lemmas.Bool.Decides.{nat_tests}
use Rattle.std.specs.List.{flat_map}
use Rattle.cls_tree.specs.Modified.{modified, modified_char}

-- not 0 and in ASCII
abbrev pub IsPlainByte : ℕ → Type 0
IsPlainByte b = (0 < b) × (b < 128)

is_no : (b : ℕ) → 0 < b → (b == 0) ≡ false
is_no b h = grind (arith, nat_tests)

is_low : (b : ℕ) → b < 128 → nat_lt b 128 ≡ true
is_low b h = grind (arith, nat_tests)

plain_char : (b : ℕ) → IsPlainByte b → modified_char b ≡ b ∷ []
plain_char b h = rw (is_no b h.0, is_low b h.1)

plain_chars : (text : List ℕ) → AllByRecursion IsPlainByte text → chars text ≡ text
unfolding chars
plain_chars [] all = refl
plain_chars (b ∷ []) all = rw (is_low b all.0.1)
plain_chars (b ∷ c ∷ text) all = rw (is_low b all.0.1) (ap (λ t. b ∷ t) (plain_chars (c ∷ text) all.1))

plain_all : (text : List ℕ) → AllByRecursion IsPlainByte text → flat_map modified_char text ≡ text
plain_all [] all = refl
plain_all (b ∷ text) all = rw (plain_char b all.0) (ap (λ t. b ∷ t) (plain_all text all.1))

pub modified_plain : (text : List ℕ) → AllByRecursion IsPlainByte text → modified text ≡ text
unfolding modified
modified_plain text all = ap (flat_map modified_char) (plain_chars text all) ∙ plain_all text all
