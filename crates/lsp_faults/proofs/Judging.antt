-- What is found of files, and what is told of it.
use Rattle.std.proofs.Common.{◌≡◌, ℕ, suc, List, [], ◌∷◌, refl}
use Rattle.std.specs.Prelude.{All}
use Rattle.std.proofs.lemmas.List.Elements.{All-nil, All-cons}
use Rattle.std.specs.declared.vec.Vec.{Vec}
use Rattle.std.specs.declared.alloc.Global.{Global}
use Rattle.jv_core.specs.Tree as Core
use Rattle.mg_sources.specs.Files.{Source}
use Rattle.mg_faults.specs.declared.judged.Finding.{Finding}
use Rattle.mg_faults.specs.declared.judged.Finding.TheVariants as findings
use Rattle.mg_faults.specs.View.{IsFound, IsAccepted}
use Rattle.lsp_text.specs.declared.encoding.Encoding.{Encoding}
use Rattle.lsp_messages.specs.declared.outgoing.Diagnostic.{Diagnostic}
use Rattle.lsp_notes.specs.Told.{text_of, AreDiagnostics, AreToldFrom}
use Rattle.lsp_faults.specs.Diagnosed.{AreAllOf, refused, accepted}
use Rattle.lsp_faults.specs.inner.Findings.{refusals_in}

-- what is found is all that is wrong
pub all_found : (files : List Source) (f : Finding) → IsFound files f → AreAllOf files (refusals_in f)
all_found files (findings.Accepted a) h = accepted a.core h.files_are
all_found files (findings.Refused rs) h = refused h

-- nothing is wrong with accepted files
pub none_found : (core : Core.Program) (f : Finding) → IsAccepted core f → refusals_in f ≡ []
none_found core (findings.Accepted a) h = refl
none_found core (findings.Refused rs) h = absurd h

module _ (encoding : Encoding) (count : ℕ) where
  none_of : (text : List ℕ) (ds : List Diagnostic) → AreDiagnostics encoding count text [] ds → ds ≡ []
  none_of text [] h = refl
  none_of text (d ∷ ds) h = absurd h

  abbrev IsEmpty : Vec Diagnostic Global → Type 0
  IsEmpty ds = ds.items ≡ []

  -- and nothing is told of them
  pub none_told : (file : ℕ) (contents : List (List ℕ)) (lists : List (Vec Diagnostic Global)) →
      AreToldFrom encoding count file [] contents lists → All (λ ds. ds.items ≡ []) lists
  none_told file [] [] h = All-nil IsEmpty
  none_told file [] (l ∷ lists) h = absurd h
  none_told file (c ∷ contents) [] h = absurd h
  none_told file (c ∷ contents) (l ∷ lists) h =
      All-cons IsEmpty l lists (none_of (text_of c) l.items h.0) (none_told (suc file) contents lists h.1)
