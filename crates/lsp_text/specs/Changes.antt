-- Changes of a text, and what stands after them.
use Rattle.std.specs.Prelude.{◌≡◌, ℕ, List, [], ◌∷◌, ◌++◌, take, drop, min, max, MatchOption, string_bytes}
use Rattle.lsp_text.specs.declared.encoding.Encoding.{Encoding}
use Rattle.lsp_text.specs.declared.changes.Range.{Range}
use Rattle.lsp_text.specs.declared.changes.Change.{Change}
use Rattle.lsp_text.specs.Positions.{Means}

-- What stood between the two positions is replaced by what is inserted, and the text before and behind it stays. The position that
-- means the lesser offset is where it begins, whichever is named first.
pub record IsReplaced (encoding : Encoding) (old : List ℕ) (range : Range) (inserted new : List ℕ) : Type 0 where
  pub start : ℕ
  pub «end» : ℕ
  pub begins : Means encoding old range.start start
  pub ends : Means encoding old range.end «end»
  pub now : new ≡ take (min start «end») old ++ (inserted ++ drop (max start «end») old)

-- the change makes this text of that, where a change with no range is the whole new text
abbrev pub IsChanged : Encoding → Change → List ℕ → List ℕ → Type 0
IsChanged encoding change old new =
    MatchOption change.range (new ≡ string_bytes change.text) (λ range. IsReplaced encoding old range (string_bytes change.text) new)

-- the changes are made one after the other, each once, and each to what those before it left
abbrev pub AreApplied : Encoding → List Change → List ℕ → List ℕ → Type 0
AreApplied encoding [] old new = old ≡ new
AreApplied encoding (change ∷ changes) old new =
    (between : List ℕ) × IsChanged encoding change old between × AreApplied encoding changes between new
