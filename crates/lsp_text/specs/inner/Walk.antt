-- In which line an offset is sought.
use Rattle.std.specs.Prelude.{ℕ, ◌+◌, ◌<◌, ◌≤◌, List, length}
use Rattle.lsp_text.specs.Lines.{IsFirstLine, IsBehind}

-- the line in which the last place stands that isn't behind the offset: it begins with rest, behind so many lines
pub record IsLineAt (text : List ℕ) (offset line : ℕ) (rest : List ℕ) : Type 0 where
  pub behind : IsBehind line text rest
  pub reached : length text ≤ offset + length rest
  pub shorter : line + length rest ≤ length text
  pub last : (l a : List ℕ) → IsFirstLine rest l a → offset + length a < length text
