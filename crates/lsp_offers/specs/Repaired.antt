-- A text in which a call stands where a method is being typed.
use Rattle.std.specs.Prelude.{ℕ, zero, suc, ◌+◌, ◌-◌, ◌==◌, false, List, [], ◌∷◌, ◌++◌, drop, take, if◌then◌else◌, codes}
use Rattle.lsp_spans.specs.Words.{run_len}
use Rattle.lsp_offers.specs.declared.spots.Spot.{Spot}
use Rattle.lsp_offers.specs.declared.attempts.Form.{Form}
use Rattle.lsp_offers.specs.declared.attempts.Form.TheVariants as forms
use Rattle.lsp_offers.specs.declared.attempts.Attempt.{Attempt}

-- how many parentheses are open behind a byte, where so many are before it
abbrev pub open_behind : (opened : ℕ) → ℕ → ℕ
open_behind n b = if b == 40 then n + 1 else if b == 41 then n - 1 else n

-- what stands behind the parenthesis that closes the last of so many; nothing where none does
abbrev pub closing : (opened : ℕ) → List ℕ → List ℕ
closing zero bs = bs
closing (suc n) [] = []
closing (suc n) (b ∷ bs) = closing (open_behind (suc n) b) bs

-- behind the word that stands in front
abbrev pub behind_word : List ℕ → List ℕ
behind_word bs = drop (run_len false bs) bs

-- behind arguments in their parentheses, where they stand in front
abbrev pub behind_arguments : List ℕ → List ℕ
behind_arguments [] = []
behind_arguments (b ∷ bs) = if b == 40 then closing 1 bs else b ∷ bs

-- behind a semicolon, where one stands in front
abbrev pub behind_semicolon : List ℕ → List ℕ
behind_semicolon [] = []
behind_semicolon (b ∷ bs) = if b == 59 then bs else b ∷ bs

-- What stands behind a call whose name is being typed here: its arguments may stand, and where it is a statement, its semicolon.
abbrev pub behind_call : Form → List ℕ → List ℕ
behind_call forms.Standing bs = bs
behind_call forms.Statement bs = behind_semicolon (behind_arguments (behind_word bs))
behind_call forms.Value bs = behind_arguments (behind_word bs)

-- how a call ends
abbrev pub ending : Form → List ℕ
ending forms.Standing = []
ending forms.Statement = codes ";"
ending forms.Value = []

-- the text with this call in place of what is typed at a spot, up to and behind an offset
abbrev pub replaced : (text : List ℕ) → Spot → (offset : ℕ) → Attempt → List ℕ
replaced text spot offset a =
    take (spot.dot + 1) text ++ (a.call ++ (ending a.form ++ behind_call a.form (drop offset text)))

-- The text in which a call is tried: what stands there already is tried as it stands.
abbrev pub repaired : (text : List ℕ) → Spot → (offset : ℕ) → Attempt → List ℕ
repaired text spot offset a = elim a.form [
  | forms.Standing ↦ text
  | forms.Statement ↦ replaced text spot offset a
  | forms.Value ↦ replaced text spot offset a
]
