-- Worked rows of what is declared.
use Rattle.std.specs.Prelude.{◌≡◌, ℕ, List, [], ◌∷◌, Some, None, codes}
use Rattle.mg_text.specs.Call.{Name}
use Rattle.mg_text.specs.declared.place.Place.{Place}
use Rattle.lsp_messages.specs.declared.outgoing.SymbolKind.TheVariants as kinds
use Rattle.lsp_symbols.specs.declared.named.Language.TheVariants as languages
use Rattle.lsp_symbols.specs.declared.tokens.Token.{Token}
use Rattle.lsp_symbols.specs.declared.tokens.Token.TheVariants as tokens
use Rattle.lsp_symbols.specs.Named.{thing, declared_in}

abbrev at : ℕ → ℕ → Place
at line column = record { file = 0; line = line; column = column }

abbrev word : ℕ → ℕ → Name → Token
word line column text = tokens.Word (at line column) text

-- typestate P {
--     A = {
--         void go(int): A
--     }
-- }
abbrev typestate : List Token
typestate =
    word 1 1 (codes "typestate") ∷ word 1 11 (codes "P") ∷ tokens.Sign 123 ∷
    word 2 5 (codes "A") ∷ tokens.Sign 61 ∷ tokens.Sign 123 ∷
    word 3 9 (codes "void") ∷ word 3 14 (codes "go") ∷ tokens.Sign 40 ∷ word 3 17 (codes "int") ∷ tokens.Sign 41 ∷
    tokens.Sign 58 ∷ word 3 23 (codes "A") ∷
    tokens.Sign 125 ∷ tokens.Sign 125 ∷ []

-- local protocol C at C(role C, role S) { bye() to S; }
-- local protocol D at C(role C, role S) { }
abbrev protocols : List Token
protocols =
    word 1 1 (codes "local") ∷ word 1 7 (codes "protocol") ∷ word 1 16 (codes "C") ∷ word 1 18 (codes "at") ∷ word 1 21 (codes "C") ∷
    tokens.Sign 40 ∷ word 1 23 (codes "role") ∷ word 1 28 (codes "C") ∷ tokens.Sign 44 ∷ word 1 31 (codes "role") ∷ word 1 36 (codes "S") ∷
    tokens.Sign 41 ∷ tokens.Sign 123 ∷ word 1 41 (codes "bye") ∷ tokens.Sign 40 ∷ tokens.Sign 41 ∷ word 1 47 (codes "to") ∷
    word 1 50 (codes "S") ∷ tokens.Sign 59 ∷ tokens.Sign 125 ∷
    word 2 1 (codes "local") ∷ word 2 7 (codes "protocol") ∷ word 2 16 (codes "D") ∷ word 2 18 (codes "at") ∷ word 2 21 (codes "C") ∷
    tokens.Sign 40 ∷ word 2 23 (codes "role") ∷ word 2 28 (codes "C") ∷ tokens.Sign 44 ∷ word 2 31 (codes "role") ∷ word 2 36 (codes "S") ∷
    tokens.Sign 41 ∷ tokens.Sign 123 ∷ tokens.Sign 125 ∷ []

pub record Rows : Type 0 where
  pub states : declared_in languages.Typestates typestate ≡
      thing (codes "P") kinds.Protocol (at 1 11) None ∷
      thing (codes "A") kinds.State (at 2 5) (Some (codes "P")) ∷
      thing (codes "go") kinds.Method (at 3 14) (Some (codes "A")) ∷ []
  pub each_protocol : declared_in languages.Protocols protocols ≡
      thing (codes "C") kinds.Protocol (at 1 16) None ∷
      thing (codes "D") kinds.Protocol (at 2 16) None ∷ []
  pub nothing : declared_in languages.Protocols [] ≡ []
