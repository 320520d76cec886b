-- The first method, then the others, `drop: end`, and the end of the last line, are the lines of the state.
use Rattle.std.proofs.Common.{◌∙◌, map}
use Rattle.ts_tree.specs.View.{state_of, method_of}
use Rattle.ts_read.proofs.Separated.{entries_done}
use Rattle.ts_read.proofs.printer.print_entries.Goals as goal

pub returns : goal.returns
returns c =
    c.in_ok-push_str-2.ensures.bytes ∙ entries_done
    (map state_of c.args.states.now) method_of _ _ _ c.args.drops _ _ _ _ c.in-len1-up.len_at_least c.first-item.is c.loop-method-test.false
    c.in_ok-print_method.ensures c.loop-method.invariant c.in_ok-print_drop_behind.ensures
