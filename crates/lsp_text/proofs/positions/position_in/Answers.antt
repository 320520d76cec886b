use Rattle.lsp_text.proofs.PlaceLaws.{position_at}
use Rattle.lsp_text.proofs.positions.position_in.Goals as goal

pub returns : goal.returns
returns c =
    position_at c.args.encoding c.args.offset c.args.line c.column-character.result c.args.text.now c.args.rest.now c.line_of.result.now
    c.requires.behind c.line_of.ensures c.line_of.utf8 c.requires.reached c.requires.last c.column-character.ensures
