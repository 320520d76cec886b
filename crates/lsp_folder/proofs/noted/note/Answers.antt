use Rattle.lsp_folder.proofs.Sets.{one_noted}
use Rattle.lsp_folder.proofs.noted.note.Goals as goal

pub returns : goal.returns
returns c = one_noted c.args.name c.args.names.now c.insert.new.self c.in_ok-insert.ensures.updates
