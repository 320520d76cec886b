use Rattle.std.proofs.Common.{◌+◌, [], ◌∷◌, ◌++◌, drop, ap, ◌∙◌}
use Rattle.cls_kinds.specs.Numbers.{joined_all}
use Rattle.cls_kinds.proofs.Joining.{joined_more, joined_none}
use Rattle.cls_kinds.proofs.rows.join_rows.Goals as goal

pub loop-at-preserved : goal.loop-at-preserved
loop-at-preserved c =
    ap (λ row. row ++ joined_all (drop (c.loop-at.at + 1) c.args.old.now) (drop (c.loop-at.at + 1) c.args.new.now))
    (c.in_ok-push.ensures.items ∙ ap (λ k. c.loop-at.row.items ++ k ∷ []) c.joined.ensures)
    ∙ joined_more c.loop-at.row.items c.args.old.now c.args.new.now c.loop-at.at _ _ c.loop-at-test.true c.requires c.loop-at.invariant

pub returns : goal.returns
returns c = joined_none c.loop-at.row.items c.args.old.now c.args.new.now c.loop-at.at c.loop-at-test.false c.loop-at.invariant
