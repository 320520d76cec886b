-- What messages tell of documents.
use Rattle.std.specs.Prelude.{ℕ, ℤ, List, [], ◌∷◌, map, Option, Some, None}
use Rattle.std.specs.declared.vec.Vec.{Vec}
use Rattle.std.specs.declared.alloc.Global.{Global}
use Rattle.lsp_messages.specs.declared.outgoing.Diagnostic.{Diagnostic}
use Rattle.lsp_messages.specs.declared.outgoing.Outgoing.{Outgoing}
use Rattle.lsp_messages.specs.declared.outgoing.Outgoing.TheVariants.{Answered, Refused, Diagnosed}

-- of a document, in a version where it is open: all that is wrong with it from now on
pub record Telling : Type 0 where
  pub document : List ℕ
  pub version : Option ℤ
  pub diagnostics : List Diagnostic

-- what a message tells, where it tells of a document
abbrev pub telling : Outgoing → Option Telling
telling (Answered id answer) = None
telling (Refused id code) = None
telling (Diagnosed document version diagnostics) =
    Some (record { document = document; version = version; diagnostics = diagnostics.items })

-- nothing is wrong with a document any more
abbrev pub cleared : List ℕ → Telling
cleared name = record { document = name; version = None; diagnostics = [] }

-- each source of a program with its version and what is wrong with it
abbrev pub tellings : List (List ℕ) → List (Option ℤ) → List (List Diagnostic) → List Telling
tellings [] versions lists = []
tellings (name ∷ names) [] lists = []
tellings (name ∷ names) (version ∷ versions) [] = []
tellings (name ∷ names) (version ∷ versions) (list ∷ lists) =
    record { document = name; version = version; diagnostics = list } ∷ tellings names versions lists

-- what is wrong with a source, where there is one
abbrev pub source_told : Option (List ℕ) → Option (Option ℤ) → List Diagnostic → List Telling
source_told None version list = []
source_told (Some name) None list = []
source_told (Some name) (Some version) list = record { document = name; version = version; diagnostics = list } ∷ []

abbrev pub lists_of : List (Vec Diagnostic Global) → List (List Diagnostic)
lists_of lists = map (λ l. l.items) lists
