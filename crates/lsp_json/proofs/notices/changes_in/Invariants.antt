use Rattle.std.proofs.Common.{◌≡◌, drop, map}
use Rattle.serde_json.specs.View.{items_view}
use Rattle.lsp_json.specs.Heard.{edit}
use Rattle.lsp_json.specs.Reading.{edits_of}
use Rattle.lsp_json.proofs.Lists.{before}
use Rattle.lsp_json.proofs.notices.changes_in.Given as goal

abbrev pub invariant-loop-value : goal.invariant-loop-value
invariant-loop-value l = before (map edit l.changes.items) (edits_of (items_view (drop l.value-index l.values))) ≡ edits_of (items_view l.values)
