-- Each refusal is told in one file, and nothing else is told.
use Rattle.std.specs.Prelude.{◌≡◌, ◌<◌, ℕ, List, [], length, Contains, Some, slice_get}
use Rattle.std.specs.List.{sum_by}
use Rattle.std.specs.declared.vec.Vec.{Vec}
use Rattle.std.specs.declared.alloc.Global.{Global}
use Rattle.mg_refusal.specs.Refusals.{Refusal}
use Rattle.lsp_text.specs.declared.encoding.Encoding.{Encoding}
use Rattle.lsp_messages.specs.declared.outgoing.Diagnostic.{Diagnostic}
use Rattle.lsp_notes.specs.Homes.{place_in}
use Rattle.lsp_notes.specs.Told.{text_of, IsDiagnostic, AreTold}

module _ (encoding : Encoding) (contents : List (List ℕ)) (lists : List (Vec Diagnostic Global)) (r : Refusal) where
  -- a diagnostic of the file of this number is of the refusal
  pub record IsOf (file : ℕ) (d : Diagnostic) : Type 0 where
    pub bytes : List ℕ
    pub has : slice_get contents file ≡ Some bytes
    pub is : IsDiagnostic encoding (text_of bytes) (place_in (length contents) r) r d
    pub home : (place_in (length contents) r).file ≡ file

  -- the refusal is told in the file of this number
  pub record IsToldIn (file : ℕ) : Type 0 where
    pub list : Vec Diagnostic Global
    pub of : slice_get lists file ≡ Some list
    pub diagnostic : Diagnostic
    pub there : Contains list.items diagnostic
    pub is : IsOf file diagnostic

  -- in one file, and in no other
  pub record IsToldOnce : Type 0 where
    pub file : ℕ
    pub told : IsToldIn file
    pub alone : (other : ℕ) → IsToldIn other → other ≡ file

-- Each refusal is told in exactly one file, where there is any.
abbrev pub EachIsToldOnce : Type 0
EachIsToldOnce = (encoding : Encoding) (rs : List Refusal) (contents : List (List ℕ)) (lists : List (Vec Diagnostic Global)) →
    AreTold encoding rs contents lists → 0 < length contents → (r : Refusal) → Contains rs r → IsToldOnce encoding contents lists r

-- Each diagnostic is of a refusal.
abbrev pub NothingElseIsTold : Type 0
NothingElseIsTold = (encoding : Encoding) (rs : List Refusal) (contents : List (List ℕ)) (lists : List (Vec Diagnostic Global)) →
    AreTold encoding rs contents lists → (file : ℕ) (list : Vec Diagnostic Global) (d : Diagnostic) → slice_get lists file ≡ Some list →
    Contains list.items d → (r : Refusal) × Contains rs r × IsOf encoding contents lists r file d

-- There are as many diagnostics as refusals, where there is any file.
abbrev pub AsManyAreTold : Type 0
AsManyAreTold = (encoding : Encoding) (rs : List Refusal) (contents : List (List ℕ)) (lists : List (Vec Diagnostic Global)) →
    AreTold encoding rs contents lists → 0 < length contents → sum_by (λ ds. length ds.items) lists ≡ length rs

-- Where nothing is refused nothing is told.
abbrev pub NothingIsTold : Type 0
NothingIsTold = (encoding : Encoding) (contents : List (List ℕ)) (lists : List (Vec Diagnostic Global)) → AreTold encoding [] contents lists →
    (file : ℕ) (list : Vec Diagnostic Global) → slice_get lists file ≡ Some list → list.items ≡ []
