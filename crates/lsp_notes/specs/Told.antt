-- Refusals as diagnostics, file by file.
use Rattle.std.specs.Prelude.{◌≡◌, ℕ, suc, List, [], ◌∷◌, take, length}
use Rattle.std.specs.Str.Lossy.{utf8_valid_len}
use Rattle.std.specs.declared.vec.Vec.{Vec}
use Rattle.std.specs.declared.alloc.Global.{Global}
use Rattle.mg_text.specs.declared.place.Place.{Place}
use Rattle.mg_refusal.specs.Refusals.{Refusal}
use Rattle.lsp_text.specs.declared.encoding.Encoding.{Encoding}
use Rattle.lsp_messages.specs.declared.outgoing.Diagnostic.{Diagnostic}
use Rattle.lsp_spans.specs.Spans.{IsRangeOf}
use Rattle.lsp_sentences.specs.Sentences.{message_of}
use Rattle.lsp_notes.specs.Homes.{place_in, told_in}

-- the text of a file: its longest front that is UTF-8
abbrev pub text_of : (bytes : List ℕ) → List ℕ
text_of bytes = take (utf8_valid_len bytes) bytes

-- the refusal at this place of the text, as a diagnostic: the word of its kind, what is said of it, and the range of the word at the place
pub record IsDiagnostic (encoding : Encoding) (text : List ℕ) (place : Place) (r : Refusal) (d : Diagnostic) : Type 0 where
  pub code : d.code ≡ r.kind
  pub message : d.message ≡ message_of r
  pub range : IsRangeOf encoding text place d.range

module _ (encoding : Encoding) (count : ℕ) where
  -- one for each refusal, in their order
  abbrev pub AreDiagnostics : (text : List ℕ) → List Refusal → List Diagnostic → Type 0
  AreDiagnostics text [] [] = Unit {0}
  AreDiagnostics text [] (d ∷ ds) = ⊥
  AreDiagnostics text (r ∷ rs) [] = ⊥
  AreDiagnostics text (r ∷ rs) (d ∷ ds) = IsDiagnostic encoding text (place_in count r) r d × AreDiagnostics text rs ds

  -- of the files from this number on each has the diagnostics of the refusals that are told in it, and of no others
  abbrev pub AreToldFrom : (file : ℕ) → List Refusal → (contents : List (List ℕ)) → (lists : List (Vec Diagnostic Global)) → Type 0
  AreToldFrom file rs [] [] = Unit {0}
  AreToldFrom file rs [] (ds ∷ lists) = ⊥
  AreToldFrom file rs (bytes ∷ contents) [] = ⊥
  AreToldFrom file rs (bytes ∷ contents) (ds ∷ lists) =
      AreDiagnostics (text_of bytes) (told_in count file rs) ds.items × AreToldFrom (suc file) rs contents lists

-- the diagnostics of refusals, of all files
abbrev pub AreTold : Encoding → List Refusal → (contents : List (List ℕ)) → (lists : List (Vec Diagnostic Global)) → Type 0
AreTold encoding rs contents lists = AreToldFrom encoding (length contents) 0 rs contents lists
