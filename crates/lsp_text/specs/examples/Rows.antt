-- Worked positions and changes, found by hand.
use Rattle.std.specs.Prelude.{ℕ, List, [], ◌∷◌}
use Rattle.lsp_text.specs.declared.encoding.Encoding.TheVariants.{Utf8, Utf16}
use Rattle.lsp_text.specs.declared.positions.Position.{Position}
use Rattle.lsp_text.specs.declared.changes.Range.{Range}
use Rattle.lsp_text.specs.Positions.{Means}
use Rattle.lsp_text.specs.Changes.{IsReplaced}

abbrev pub at : ℕ → ℕ → Position
at line character = record { line = line; character = character }

-- four characters in one line: of 1, 2, 4 and 1 bytes, and of 1, 1, 2 and 1 code units: a, U+00E4, U+1F600, b
abbrev pub mixed : List ℕ
mixed = 97 ∷ 195 ∷ 164 ∷ 240 ∷ 159 ∷ 152 ∷ 128 ∷ 98 ∷ []

-- four lines, which end with both, a carriage return and a line feed: "a", "b", "c" and "d"
abbrev pub ended : List ℕ
ended = 97 ∷ 13 ∷ 10 ∷ 98 ∷ 13 ∷ 99 ∷ 10 ∷ 100 ∷ []

-- "ab" and "cd"; then with "X" from between a and b to between c and d; then without it
abbrev pub first : List ℕ
first = 97 ∷ 98 ∷ 10 ∷ 99 ∷ 100 ∷ []

abbrev pub second : List ℕ
second = 97 ∷ 88 ∷ 100 ∷ []

abbrev pub third : List ℕ
third = 97 ∷ 100 ∷ []

abbrev pub between : Position → Position → Range
between start «end» = record { start = start; «end» = «end» }

pub record Rows : Type 0 where
  -- in code units of UTF-16: before the pair, within it, behind it, behind the line, and in a line that isn't there
  pub before_pair : Means Utf16 mixed (at 0 2) 3
  pub within_pair : Means Utf16 mixed (at 0 3) 3
  pub behind_pair : Means Utf16 mixed (at 0 4) 7
  pub behind_line : Means Utf16 mixed (at 0 9) 8
  pub no_line : Means Utf16 mixed (at 1 0) 8
  -- in bytes of UTF-8: the same numbers mean other places
  pub within_two : Means Utf8 mixed (at 0 2) 1
  pub before_four : Means Utf8 mixed (at 0 3) 3
  pub within_four : Means Utf8 mixed (at 0 4) 3
  -- behind a line is before its end, whichever it is
  pub before_both : Means Utf16 ended (at 0 5) 1
  pub second_line : Means Utf16 ended (at 1 0) 3
  pub before_carriage : Means Utf16 ended (at 1 2) 4
  pub third_line : Means Utf16 ended (at 2 0) 5
  pub fourth_line : Means Utf16 ended (at 3 0) 7
  -- nothing has one place
  pub empty : Means Utf8 [] (at 0 0) 0
  pub empty_behind : Means Utf8 [] (at 0 7) 0
  pub empty_below : Means Utf8 [] (at 3 0) 0
  -- a range over a line's end, and a second change behind the first; the end of a range may be named first
  pub over_lines : IsReplaced Utf16 first (between (at 0 1) (at 1 1)) (88 ∷ []) second
  pub then_gone : IsReplaced Utf16 second (between (at 0 1) (at 0 2)) [] third
  pub end_first : IsReplaced Utf16 first (between (at 1 1) (at 0 1)) (88 ∷ []) second
