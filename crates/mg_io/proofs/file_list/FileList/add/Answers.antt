use Rattle.std.proofs.Common.{◌∙◌, ap, Some}
use Rattle.std.specs.Prelude.{string_bytes}
use Rattle.std.specs.FinMap as map
use Rattle.std.proofs.lemmas.Map.Text.{btree_map_updates_text}
use Rattle.mg_io.proofs.Files.{one_written}
use Rattle.mg_io.proofs.file_list.FileList.add.Goals as goal

pub returns-clause-ok : goal.returns-clause-ok
returns-clause-ok c =
    one_written c.self.inside.files.entries c.insert.new.self.entries (string_bytes c.in_ok-name.name) c.in_ok-content.content
    (btree_map_updates_text (string_bytes c.in_ok-name.name) c.self.inside.files c.insert.new.self (Some c.in_ok-content.content)
    c.in_ok-insert.ensures.updates)
    ∙ ap (λ m. map.insert m (string_bytes c.in_ok-name.name) c.in_ok-content.content) c.self.view_is
    ∙ ap (λ n. map.insert c.args.self.now n c.in_ok-content.content) c.in_ok-name.ensures.ok
    ∙ ap (λ b. map.insert c.args.self.now c.args.name.now b) c.in_ok-content.ensures
