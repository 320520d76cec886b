-- Refusals and their ranges, one by one.
use Rattle.std.specs.Prelude.{List, [], ◌∷◌}
use Rattle.mg_refusal.specs.Refusals.{Refusal}
use Rattle.lsp_text.specs.declared.changes.Range.{Range}
use Rattle.lsp_messages.specs.declared.outgoing.Diagnostic.{Diagnostic}
use Rattle.lsp_sentences.specs.Sentences.{message_of}

abbrev pub diagnostic_of : Refusal → Range → Diagnostic
diagnostic_of r range = record { range = range; code = r.kind; message = message_of r }

abbrev pub diagnostics : List Refusal → List Range → List Diagnostic
diagnostics [] ranges = []
diagnostics (r ∷ rs) [] = []
diagnostics (r ∷ rs) (range ∷ ranges) = diagnostic_of r range ∷ diagnostics rs ranges
