-- Which documents show something at the client.
use Rattle.std.specs.Prelude.{ℕ, ◌&&◌, not, Bool, List, [], ◌∷◌, ◌++◌, filter}
use Rattle.std.specs.List.{list_any, flat_map}
use Rattle.std.specs.Str.{bytes_eq}
use Rattle.lsp_messages.specs.declared.outgoing.Diagnostic.{Diagnostic}
use Rattle.lsp_messages.specs.declared.outgoing.Outgoing.{Outgoing}
use Rattle.lsp_messages.specs.declared.outgoing.Outgoing.TheVariants.{Answered, Refused, Diagnosed}
use Rattle.lsp_folder.specs.Names.{is_part}

abbrev pub is_among : List (List ℕ) → List ℕ → Bool
is_among names name = list_any (λ n. bytes_eq n name) names

-- the documents of a folder that show something and are no sources
abbrev pub left_over : (document : List ℕ) → (shown names : List (List ℕ)) → List (List ℕ)
left_over document shown names = filter (λ name. is_part document name && not (is_among names name)) shown

-- the documents outside of a folder
abbrev pub others : (document : List ℕ) → List (List ℕ) → List (List ℕ)
others document shown = filter (λ name. not (is_part document name)) shown

-- a document shows something where something is wrong with it
abbrev pub shows : List ℕ → List Diagnostic → List (List ℕ)
shows name [] = []
shows name (d ∷ ds) = name ∷ []

-- the document that shows something by a message
abbrev pub shown_by : Outgoing → List (List ℕ)
shown_by (Answered id answer) = []
shown_by (Refused id code) = []
shown_by (Diagnosed document version diagnostics) = shows document diagnostics.items

-- behind what is told of a folder: others as before, and its documents with which something is wrong
abbrev pub showing : (document : List ℕ) → List (List ℕ) → List Outgoing → List (List ℕ)
showing document shown told = others document shown ++ flat_map shown_by told
