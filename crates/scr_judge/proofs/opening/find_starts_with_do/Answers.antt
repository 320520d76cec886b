use Rattle.std.proofs.Common.{length, sym, ◌∙◌}
use Rattle.std.proofs.lemmas.Bool.{eqb-true}
use Rattle.scr_tree.specs.Written.{part_written}
use Rattle.scr_judge.proofs.Starting.{one_alone}
use Rattle.scr_judge.proofs.opening.find_starts_with_do.Goals as goal

pub returns-then-is_empty : goal.returns-then-is_empty
returns-then-is_empty c =
    one_alone (part_written c.args.written.now.first) c.args.written.now.others.items c.as_slice.result.now c.as_slice.ensures.items
    (eqb-true (length c.as_slice.result.now) 0 (sym c.is_empty.ensures ∙ c.if-is_empty.true))
