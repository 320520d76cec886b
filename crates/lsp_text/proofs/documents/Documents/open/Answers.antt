use Rattle.std.proofs.Common.{◌≡◌, Some, string_bytes, subst, w64, to_z, of_z}
use Rattle.std.specs.Prelude.{ℤ}
use Rattle.std.proofs.lemmas.Int.{to_z-of_z}
use Rattle.std.proofs.lemmas.Map.Text.{btree_map_updates_text}
use Rattle.lsp_text.specs.declared.documents.Document.{Document}
use Rattle.lsp_text.specs.Documents.{Puts}
use Rattle.lsp_text.proofs.DocumentLaws.{put_at}
use Rattle.lsp_text.proofs.documents.Documents.open.Goals as goal

pub returns : goal.returns
returns c =
    let d : Document = record { version = to_z w64 (of_z w64 c.args.version); text = c.args.text } in
    let same : to_z w64 (of_z w64 c.args.version) ≡ c.args.version = to_z-of_z w64 c.args.version c.ranges.version in
    let put = put_at c.args.self.now (record { by_name = c.insert.new.self }) (string_bytes c.args.name) (Some d)
    (λ q. btree_map_updates_text (string_bytes c.args.name) c.args.self.now.by_name c.insert.new.self (Some d) c.in_ok-insert.ensures.updates q)
    in
    subst (λ (z : ℤ). Puts c.args.self.now (record { by_name = c.insert.new.self }) (string_bytes c.args.name)
    (Some (record { version = z; text = string_bytes c.args.text }))) same put
