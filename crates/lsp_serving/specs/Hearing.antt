-- Which message a body is.
use Rattle.std.specs.Prelude.{◌≡◌, ℕ, List, [], ◌∷◌}
use Rattle.std.specs.Str.{IsUtf8}
use Rattle.serde_json.specs.Read.{read as read_text}
use Rattle.lsp_messages.specs.declared.incoming.Incoming.{Incoming}
use Rattle.lsp_messages.specs.declared.incoming.Incoming.TheVariants.{Malformed}
use Rattle.lsp_json.specs.Heard.{seen}
use Rattle.lsp_json.specs.Reading.{heard}

-- a text is the message that its JSON tells, and what is no text is malformed
pub record IsHeard (body : List ℕ) (message : Incoming) : Type 0 where
  pub text : IsUtf8 body → seen message ≡ heard (read_text body)
  pub none : ¬ IsUtf8 body → message ≡ Malformed

-- each body is the message at its place
abbrev pub AreHeard : List (List ℕ) → List Incoming → Type 0
AreHeard [] [] = Unit {0}
AreHeard [] (message ∷ messages) = ⊥
AreHeard (body ∷ bodies) [] = ⊥
AreHeard (body ∷ bodies) (message ∷ messages) = IsHeard body message × AreHeard bodies messages
