-- The diagnostics of files: what `check --all` says of them, each line in the list of its file.
use Rattle.std.specs.Prelude.{ℕ, List, []}
use Rattle.std.specs.declared.vec.Vec.{Vec}
use Rattle.std.specs.declared.alloc.Global.{Global}
use Rattle.jv_core.specs.Tree as Core
use Rattle.mg_refusal.specs.Refusals.{Refusal}
use Rattle.mg_sources.specs.Files.{Source, sources}
use Rattle.mg_accepted.specs.Accepted.{AreAccepted}
use Rattle.mg_faults.specs.Faults.{AllRefusals}
use Rattle.lsp_text.specs.declared.encoding.Encoding.{Encoding}
use Rattle.lsp_messages.specs.declared.outgoing.Diagnostic.{Diagnostic}
use Rattle.lsp_notes.specs.Told.{AreTold}

-- all that is wrong with files, and nothing where they are accepted
pub data AreAllOf (files : List Source) : List Refusal → Type 0 where
  refused : {rs : List Refusal} → AllRefusals files rs → AreAllOf files rs
  accepted : (core : Core.Program) → AreAccepted files core → AreAllOf files []

-- of each file the diagnostics of what is wrong there, in the order of the lines, and no others
pub record AreDiagnosed (encoding : Encoding) (names contents : List (List ℕ)) (lists : List (Vec Diagnostic Global)) : Type 0 where
  pub refusals : List Refusal
  pub are : AreAllOf (sources names contents) refusals
  pub told : AreTold encoding refusals contents lists
