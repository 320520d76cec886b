-- Words, and how far they go.
use Rattle.std.specs.Prelude.{ℕ, zero, suc, ◌+◌, ◌-◌, ◌==◌, ◌&&◌, ◌||◌, Bool, false, List, [], ◌∷◌, length, drop, nat_le, take_while}
use Rattle.std.specs.Prelude.{Option, None, Some, option_map, if◌then◌else◌}

abbrev pub is_between : (low high : ℕ) → ℕ → Bool
is_between low high b = nat_le low b && nat_le b high

-- a letter, a digit, `_` or `$`
abbrev pub is_word_byte : ℕ → Bool
is_word_byte b = is_between 97 122 b || (is_between 65 90 b || (is_between 48 57 b || (b == 95 || b == 36)))

-- the same, or a dot, where dots count
abbrev pub is_run_byte : (dots : Bool) → ℕ → Bool
is_run_byte dots b = is_word_byte b || (dots && b == 46)

abbrev pub run_len : (dots : Bool) → List ℕ → ℕ
run_len dots bs = length (take_while (is_run_byte dots) bs)

-- how many bytes stand in front that pass a test
abbrev pub front_len : (test : ℕ → Bool) → List ℕ → ℕ
front_len test bs = length (take_while test bs)

abbrev pub is_line_end : ℕ → Bool
is_line_end b = b == 10 || b == 13

-- a byte of a character behind its first
abbrev pub goes_on : ℕ → Bool
goes_on = is_between 128 191

-- The word in front; where none stands there one character, and nothing where the line ends.
abbrev pub word_len : List ℕ → ℕ
word_len [] = 0
word_len (b ∷ bs) = if is_line_end b then 0 else (if is_word_byte b then front_len is_word_byte (b ∷ bs) else suc (front_len goes_on bs))

-- what stands between words: a space, a tab, or the end of a line
abbrev pub is_blank : ℕ → Bool
is_blank b = b == 32 || (b == 9 || is_line_end b)

abbrev pub behind_blanks : List ℕ → List ℕ
behind_blanks bs = drop (front_len is_blank bs) bs

abbrev pub begins_word : List ℕ → Bool
begins_word [] = false
begins_word (b ∷ bs) = is_word_byte b

-- A joint of a path: a dot before a word, with blanks or none on both sides. How many bytes it has, where one stands in front.
abbrev pub dot_len : List ℕ → Option ℕ
dot_len [] = None
dot_len (b ∷ bs) = if b == 46 && begins_word (behind_blanks bs) then Some (suc (front_len is_blank bs)) else None

abbrev pub joint_len : List ℕ → Option ℕ
joint_len bs = option_map (λ n. front_len is_blank bs + n) (dot_len (behind_blanks bs))

-- How many bytes a path still has, behind one of its bytes: those that are ahead up to its next word, and of that all; then the next
-- joint with what is behind it, where one stands there.
abbrev pub path_from : (ahead : ℕ) → List ℕ → ℕ
path_from ahead [] = 0
path_from (suc n) (b ∷ bs) = suc (path_from n bs)
path_from zero (b ∷ bs) =
    if is_word_byte b then suc (path_from 0 bs)
    else elim (joint_len (b ∷ bs)) [ None ↦ 0 | Some n ↦ suc (path_from (n - 1) bs) ]

-- The path in front: words with joints between them.
abbrev pub path_len : List ℕ → ℕ
path_len bs = if begins_word bs then path_from 0 bs else 0
