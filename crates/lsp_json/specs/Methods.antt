-- The methods that the server knows, by their names.
use Rattle.std.specs.Prelude.{ℕ, List, [], ◌∷◌, codes, if◌then◌else◌}
use Rattle.std.specs.Str.{bytes_eq}
use Rattle.lsp_json.specs.declared.methods.Asked.{Asked}
use Rattle.lsp_json.specs.declared.methods.Asked.TheVariants as asked
use Rattle.lsp_json.specs.declared.methods.Told.{Told}
use Rattle.lsp_json.specs.declared.methods.Told.TheVariants as told

-- what a table has at a name, or this
abbrev pub named : {A : Type 0} → List (List ℕ × A) → A → List ℕ → A
named [] other name = other
named (row ∷ rows) other name = if bytes_eq name row.0 then row.1 else named rows other name

-- what is asked for
abbrev pub requests : List (List ℕ × Asked)
requests =
    (codes "initialize", asked.Initialize)
    ∷ (codes "shutdown", asked.Shutdown)
    ∷ (codes "textDocument/hover", asked.Hover)
    ∷ (codes "textDocument/completion", asked.Completion)
    ∷ (codes "textDocument/definition", asked.Definition)
    ∷ (codes "textDocument/inlayHint", asked.Hints)
    ∷ (codes "textDocument/documentSymbol", asked.Symbols)
    ∷ (codes "workspace/executeCommand", asked.Command)
    ∷ []

abbrev pub asked_by : List ℕ → Asked
asked_by = named requests asked.Unknown

-- what is told
abbrev pub notifications : List (List ℕ × Told)
notifications =
    (codes "initialized", told.Initialized)
    ∷ (codes "textDocument/didOpen", told.Open)
    ∷ (codes "textDocument/didChange", told.Change)
    ∷ (codes "textDocument/didSave", told.Save)
    ∷ (codes "textDocument/didClose", told.Close)
    ∷ (codes "exit", told.Exit)
    ∷ (codes "$/cancelRequest", told.Cancel)
    ∷ []

abbrev pub told_by : List ℕ → Told
told_by = named notifications told.Unknown
