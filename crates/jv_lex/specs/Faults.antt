-- Where the bytes of a Java source can't be cut, and why.
use Rattle.std.specs.Prelude.{◌≡◌, ℕ, suc, ◌+◌, ◌≤◌, List, ◌∷◌, ◌++◌, length, Bool, ◌||◌, ◌==◌, true, false}
use Rattle.std.specs.List.{AllByRecursion}
use Rattle.std.specs.Char.{is_ascii_digit}
use Rattle.std.specs.Str.{IsValidUpTo}
use Rattle.mg_text.specs.declared.place.Place.{Place}
use Rattle.mg_read.specs.Passes.{AllPasses, StopsAt}
use Rattle.mg_read.specs.Pieces.{HasNoClose}
use Rattle.jv_tree.specs.declared.token.Sign.{Sign}
use Rattle.jv_lex.specs.declared.fault.Cause.{Cause}
use Rattle.jv_lex.specs.declared.fault.Cause.TheVariants as causes
use Rattle.jv_lex.specs.declared.fault.LexFault.{LexFault}
use Rattle.jv_lex.specs.declared.fault.LexFault.TheVariants as faults
use Rattle.jv_lex.specs.Letters.{is_blank, is_word_start, is_line_end, is_in_line, is_escape}
use Rattle.jv_lex.specs.Comments.{FirstUnicode}
use Rattle.jv_lex.specs.Signs.{written}
use Rattle.jv_lex.specs.Written.{Written, spelled, IsCharacter, IsStroke}
use Rattle.jv_lex.specs.Pieces.{Piece, number, spell, MayStand, Cut}

-- a byte that begins a blank, a word, a number or a text
abbrev pub is_start : ℕ → Bool
is_start c = is_blank c || (is_word_start c || (is_ascii_digit c || c == 34))

-- Why no piece stands at the front of rest, and how many bytes behind its front the fault is.
pub data Stops (rest : List ℕ) : Cause → ℕ → Type 0 where
  -- no "*/" follows
  open_comment : (body : List ℕ) → rest ≡ 47 ∷ 42 ∷ body → ((u v : List ℕ) → body ≡ u ++ 42 ∷ 47 ∷ v → ⊥) → Stops rest causes.OpenComment 0
  -- in a comment to the end of its line, this backslash is the first that begins an escape of Unicode
  line_unicode : (body after : List ℕ) (n : ℕ) → rest ≡ 47 ∷ 47 ∷ (body ++ after) → AllPasses is_in_line body → StopsAt is_in_line after
      → FirstUnicode body n → Stops rest causes.BadByte (suc (suc n))
  -- and in a comment up to the first "*/"
  block_unicode : (body after : List ℕ) (n : ℕ) → rest ≡ 47 ∷ 42 ∷ (body ++ 42 ∷ 47 ∷ after) → HasNoClose body → FirstUnicode body n
      → Stops rest causes.BadByte (suc (suc n))
  -- no quote closes the text before its line ends
  open_text : (body : List ℕ) → rest ≡ 34 ∷ body
      → ((ws : List Written) (after : List ℕ) → AllByRecursion IsStroke ws → body ≡ spelled ws ++ 34 ∷ after → ⊥) →
      Stops rest causes.OpenText 0
  -- a quote closes the text, and this is its first backslash that begins no escape
  bad_escape : (good more : List Written) (c : ℕ) (after : List ℕ) → rest ≡ 34 ∷ (spelled good ++ 92 ∷ c ∷ (spelled more ++ 34 ∷ after))
      → AllByRecursion IsCharacter good → is_escape c ≡ false → is_line_end c ≡ false → AllByRecursion IsStroke more →
      Stops rest causes.BadEscape (suc (length (spelled good)))
  -- a digit stands there, and no number
  bad_number : (c : ℕ) (cs : List ℕ) → rest ≡ c ∷ cs → is_ascii_digit c ≡ true
      → ((n : ℕ) (after : List ℕ) → rest ≡ spell (number n) ++ after → MayStand (number n) after → ⊥) → Stops rest causes.BadNumber 0
  -- a byte stands there that begins nothing
  bad_byte : (c : ℕ) (cs : List ℕ) → rest ≡ c ∷ cs → is_start c ≡ false
      → ((s : Sign) (after : List ℕ) → rest ≡ written s ++ after → ⊥) → Stops rest causes.BadByte 0

-- a fault at an offset: the pieces end there, or the bytes stop to be UTF-8
pub data IsFault (bytes : List ℕ) : Cause → ℕ → Type 0 where
  stop : {cause : Cause} (pieces : List Piece) (rest : List ℕ) (n k : ℕ) → Cut pieces bytes rest → Stops rest cause n
      → k + length rest ≡ length bytes + n → IsFault bytes cause k
  ill_formed : (k : ℕ) → IsValidUpTo bytes k → IsFault bytes causes.BadByte k

-- the first fault in the text; no two causes stand at one offset
pub record IsFirst (bytes : List ℕ) (cause : Cause) (k : ℕ) : Type 0 where
  pub fault : IsFault bytes cause k
  pub first : (other : Cause) (j : ℕ) → IsFault bytes other j → k ≤ j

-- what is told of a fault at a place
abbrev pub told : Cause → Place → LexFault
told causes.BadByte place = faults.BadByte place
told causes.OpenComment place = faults.OpenComment place
told causes.OpenText place = faults.OpenText place
told causes.BadEscape place = faults.BadEscape place
told causes.BadNumber place = faults.BadNumber place
