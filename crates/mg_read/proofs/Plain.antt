-- Texts of plain letters: bytes of names are ASCII, and a word's letters are tested one by one.
use Rattle.std.proofs.Common.{◌≡◌, ℕ, ◌<◌, List, [], ◌∷◌, ◌++◌, Bool, true, false, ◌&&◌, refl, sym, arith, true≢false}
use Rattle.std.specs.Str.{IsAscii}
use Rattle.std.proofs.lemmas.Bool.Decides.{nat_tests}
use Rattle.std.proofs.lemmas.Str.Ascii.{IsAscii-nil, IsAscii-cons}
use Rattle.mg_read.specs.Letters.{is_name_byte}
use Rattle.mg_read.specs.Passes.{AllPasses, StopsAt}

-- nothing is asked of what follows
abbrev pub Any : List ℕ → Type 0
Any bytes = Unit {0}

-- what follows begins with no byte of a name
abbrev pub NoName : List ℕ → Type 0
NoName = StopsAt is_name_byte

-- each byte is ASCII
pub data AreLow : List ℕ → Type 0 where
  none : AreLow []
  more : {c : ℕ} {cs : List ℕ} → c < 128 → AreLow cs → AreLow (c ∷ cs)

pub low-append : {a b : List ℕ} → AreLow a → AreLow b → AreLow (a ++ b)
low-append none h = h
low-append (more l g) h = more l (low-append g h)

pub low-ascii : {a : List ℕ} → AreLow a → IsAscii a
low-ascii none = IsAscii-nil
low-ascii (more {c = c} {cs = cs} l h) = IsAscii-cons c cs l (low-ascii h)

pub low-name : (a : List ℕ) → AllPasses is_name_byte a → AreLow a
low-name [] h = none
low-name (c ∷ cs) h = more (below c h.0) (low-name cs h.1)
  where
    below : (c : ℕ) → is_name_byte c ≡ true → c < 128
    below c h = grind (arith, nat_tests)

-- each letter of a word may stand in a name
unfoldable pub all_of : List ℕ → Bool
all_of [] = true
all_of (c ∷ cs) = is_name_byte c && all_of cs

split : (a b : Bool) → (a && b) ≡ true → (a ≡ true) × (b ≡ true)
split true b e = (refl, e)
split false b e = absurd (true≢false (sym e))

pub all_pass : (cs : List ℕ) → all_of cs ≡ true → AllPasses is_name_byte cs
unfolding all_of
all_pass [] e = tt
all_pass (c ∷ cs) e = let h = split (is_name_byte c) (all_of cs) e in (h.0, all_pass cs h.1)
