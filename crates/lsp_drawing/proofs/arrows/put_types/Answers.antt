-- The first type, and then the others behind commas, are the list.
use Rattle.ts_read.specs.Layout.{type_text}
use Rattle.lsp_drawing.proofs.Separated.{listed_done}
use Rattle.lsp_drawing.proofs.arrows.put_types.Goals as goal

pub returns : goal.returns
returns c = listed_done type_text _ _ _ _ _ _ c.in-len1-up.len_at_least c.first-item.is c.loop-name-test.false c.in_ok-put_type.ensures
    c.loop-name.invariant
