use Rattle.lsp_folder.proofs.Gathering.{parted_is}
use Rattle.lsp_folder.proofs.program.program_of.Goals as goal

pub returns : goal.returns
returns c =
    parted_is c.args.documents.now c.args.document.now c.args.files.now c.in_ok-members.members.items c.in_ok-members.ensures c.parted.result
    c.parted.ensures.names c.parted.ensures.contents c.parted.ensures.versions
