-- The first type, and then the others behind commas, are the list.
use Rattle.ts_read.specs.Layout.{type_text}
use Rattle.ts_read.proofs.Separated.{listed_done}
use Rattle.ts_read.proofs.printer.print_types.Goals as goal

pub returns : goal.returns
returns c = listed_done type_text _ _ _ _ _ _ c.in-len1-up.len_at_least c.first-item.is c.loop-name-test.false c.in_ok-print_type.ensures
    c.loop-name.invariant
