-- What a comment of Java may not hold. Where a backslash and "u" stand, and before them an even number of backslashes, Java reads an escape
-- of Unicode: the character that is meant, in a comment as elsewhere, so that an escape may end the line, or close the comment.
use Rattle.std.specs.Prelude.{◌≡◌, ℕ, List, [], ◌∷◌, ◌++◌, length, ◌==◌, false}

-- The number of backslashes at the end of the bytes is even: no byte is there, another byte ends them, or two backslashes more stand behind
-- such bytes.
pub data EndsEven : List ℕ → Type 0 where
  empty : (bytes : List ℕ) → bytes ≡ [] → EndsEven bytes
  other : (bytes front : List ℕ) (c : ℕ) → bytes ≡ front ++ c ∷ [] → (c == 92) ≡ false → EndsEven bytes
  two_more : (bytes front : List ℕ) → bytes ≡ front ++ 92 ∷ 92 ∷ [] → EndsEven front → EndsEven bytes

-- no escape of Unicode begins in these bytes
abbrev pub HasNoUnicode : List ℕ → Type 0
HasNoUnicode bytes = (before after : List ℕ) → bytes ≡ before ++ 92 ∷ 117 ∷ after → EndsEven before → ⊥

-- the first escape of Unicode in these bytes begins behind n of them
pub record FirstUnicode (bytes : List ℕ) (n : ℕ) : Type 0 where
  pub before : List ℕ
  pub after : List ℕ
  pub parts : bytes ≡ before ++ 92 ∷ 117 ∷ after
  pub even : EndsEven before
  pub first : HasNoUnicode before
  pub long : n ≡ length before
