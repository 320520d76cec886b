-- Ranges of a document.
use Rattle.mg_text.specs.Call.{Name}
use Rattle.lsp_text.specs.declared.changes.Range.{Range}
use Rattle.lsp_messages.specs.declared.outgoing.Location.{Location}

abbrev pub location : (document : Name) → Range → Location
location document range = record { document = document; range = range }
