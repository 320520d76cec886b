use Rattle.std.proofs.Common.{None}
use Rattle.std.proofs.lemmas.Map.Text.{btree_map_updates_text}
use Rattle.lsp_text.proofs.DocumentLaws.{put_at}
use Rattle.lsp_text.proofs.documents.Documents.close.Goals as goal

pub returns-clause-put : goal.returns-clause-put
returns-clause-put c =
    put_at c.args.self.now (record { by_name = c.remove.new.self }) c.args.name.now None
    (λ q. btree_map_updates_text c.args.name.now c.args.self.now.by_name c.remove.new.self None c.remove.ensures.updates q)
