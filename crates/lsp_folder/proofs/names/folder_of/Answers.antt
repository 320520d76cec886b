use Rattle.std.proofs.Common.{sym}
use Rattle.lsp_folder.proofs.Slashes.{none_any, folder_none, folder_some}
use Rattle.lsp_folder.proofs.names.folder_of.Goals as goal

pub returns-in-Some : goal.returns-in-Some
returns-in-Some c = sym (folder_some c.args.name.now c.in-Some.at c.in-Some.ensures.0 c.in-Some.ensures.1)

pub returns-in-None : goal.returns-in-None
returns-in-None c = sym (folder_none c.args.name.now (none_any c.args.name.now c.in-None.ensures))
