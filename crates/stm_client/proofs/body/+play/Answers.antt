use Rattle.std.proofs.Common.{◌∙◌, ◌++◌, [], ◌∷◌, List, None, ap, sym, map}
use Rattle.std.proofs.lemmas.Result.{on_ok_weaker}
use Rattle.scr_tree.specs.View.{statements, bodies}
use Rattle.scr_tree.specs.declared.syntax.Statement.{Statement}
use Rattle.jv_tree.specs.View.{stmt_of, group_of}
use Rattle.stm_client.specs.View.{making, loops_of, end_of}
use Rattle.stm_client.specs.Client.{group, groups, plays, ended, other_choice}
use Rattle.stm_client.proofs.Playing.{end-step, plays-step, either-step, blocks-step, groups-step, pushed, from-nothing}
use Rattle.stm_client.proofs.Playing.{chosen_there, continued, gone_on}
use Rattle.stm_client.proofs.body.+play.Goals as goal

pub play-loop-statement-preserved : goal.play-loop-statement-preserved
play-loop-statement-preserved t c =
    let w = making c.args.about.now in
    record {
      end =
          c.loop-statement.invariant.end
          ∙ end-step c.loop-statement.end c.in_ok-last.last c.past-end.result c.args.body.now c.loop-statement.statement-index
          c.statement-item.result c.loop-statement-test.true c.statement-item.is c.past-end.ensures w.me c.in_ok-last.ensures.end;
      plays =
          c.loop-statement.invariant.plays
          ∙ plays-step c.loop-statement.end c.in_ok-last.last c.past-end.result c.args.body.now c.loop-statement.statement-index
          c.statement-item.result c.loop-statement-test.true c.statement-item.is c.past-end.ensures w (loops_of c.args.loops.now)
          (map stmt_of c.loop-statement.out.items) (map stmt_of c.play_at.new.out.items) c.in_ok-last.ensures.end
          c.in_ok-last.ensures.plays;
    }

pub play_blocks-loop-branch-preserved : goal.play_blocks-loop-branch-preserved
play_blocks-loop-branch-preserved t c =
    let w = making c.args.about.now in
    let here = ap (λ (ss : List Statement). statements ss) c.as_slice.ensures.items in
    let so = c.in_ok-last.ensures.end ∙ ap (end_of w.me c.loop-branch.end.numbers) here in
    record {
      end =
          c.loop-branch.invariant.end
          ∙ either-step c.loop-branch.end c.in_ok-last.last c.either-end.result c.args.branches.now c.loop-branch.branch-index
          c.branch-item.result c.loop-branch-test.true c.branch-item.is c.either-end.ensures w.me so;
      made =
          c.loop-branch.invariant.made
          ∙ blocks-step c.loop-branch.end c.in_ok-last.last c.either-end.result c.args.branches.now c.loop-branch.branch-index
          c.branch-item.result c.loop-branch-test.true c.branch-item.is c.either-end.ensures w (loops_of c.args.loops.now)
          (map stmt_of c.play.new.out.items) so
          (from-nothing stmt_of c.new-body.result.items (map stmt_of c.play.new.out.items) _ c.new-body.ensures c.in_ok-last.ensures.plays
          ∙ ap (plays w (loops_of c.args.loops.now) c.loop-branch.end.numbers) here)
          (map stmt_of c.loop-branch.out.items) (map stmt_of c.push.new.self.items)
          (pushed stmt_of c.loop-branch.out.items c.push.new.self.items c.block.result _ c.in_ok-push.ensures.ok c.block.ensures);
    }

pub play_groups-loop-branch-preserved : goal.play_groups-loop-branch-preserved
play_groups-loop-branch-preserved t c =
    let w = making c.args.about.now in
    let here = ap (λ (ss : List Statement). statements ss) c.as_slice.ensures.items in
    let so = c.in_ok-last.ensures.end ∙ ap (end_of w.me c.loop-branch.end.numbers) here in
    record {
      end =
          c.loop-branch.invariant.end
          ∙ either-step c.loop-branch.end c.in_ok-last.last c.either-end.result c.args.branches.now c.loop-branch.branch-index
          c.branch-item.result c.loop-branch-test.true c.branch-item.is c.either-end.ensures w.me so;
      made =
          c.loop-branch.invariant.made
          ∙ groups-step c.loop-branch.end c.in_ok-last.last c.either-end.result c.args.branches.now c.loop-branch.branch-index
          c.branch-item.result c.loop-branch-test.true c.branch-item.is c.either-end.ensures w (loops_of c.args.loops.now)
          (map stmt_of c.play.new.out.items) so
          (from-nothing stmt_of c.new-body.result.items (map stmt_of c.play.new.out.items) _ c.new-body.ensures c.in_ok-last.ensures.plays
          ∙ ap (plays w (loops_of c.args.loops.now) c.loop-branch.end.numbers) here)
          (map group_of c.loop-branch.out.items) (map group_of c.add_group.new.out.items)
          (c.in_ok-add_group.ensures ∙ ap (λ (ss : List Statement). map group_of c.loop-branch.out.items
          ++ group w.place (statements ss) (map stmt_of c.play.new.out.items ++ ended w.place None c.in_ok-last.last.falls) ∷ [])
          c.as_slice-in-loop-branch.ensures.items);
    }

pub play_other-returns-clause-plays : goal.play_other-returns-clause-plays
play_other-returns-clause-plays t c =
    let w = making c.args.about.now in
    let loops = loops_of c.args.loops.now in
    let branches = bodies c.args.branches.now in
    pushed stmt_of c.args.out.now.items c.push.new.self.items c.in_ok-choice.choice _ c.in_ok-push.ensures.ok
    (c.in_ok-choice.ensures ∙ ap (other_choice w c.args.at.there branches)
    (from-nothing group_of c.new-groups.result.items (map group_of c.play_groups.new.out.items) (groups w loops c.in_ok-opened.opened branches)
    c.new-groups.ensures c.in_ok-end.ensures.groups
    ∙ ap (λ o. groups w loops o branches) c.in_ok-opened.ensures))

pub play_at-returns-else-eq-clause-plays : goal.play_at-returns-else-eq-clause-plays
play_at-returns-else-eq-clause-plays t c =
    on_ok_weaker c.play_other.result
    (chosen_there (making c.args.about.now) (loops_of c.args.loops.now) c.args.at c.args.statement.now (map stmt_of c.args.out.now.items)
    (map stmt_of c.play_other.new.out.items) _ _ _ c.me.result.now c.as_slice-branches.result.now c.in-Choice.is c.me.ensures (sym c.eq.ensures ∙ c.if-eq.false)
    c.as_slice-branches.ensures.items) c.play_other.ensures.plays

pub play_at-returns-in_ok-add-in-Continue-clause-plays : goal.play_at-returns-in_ok-add-in-Continue-clause-plays
play_at-returns-in_ok-add-in-Continue-clause-plays t c =
    continued (making c.args.about.now) (loops_of c.args.loops.now) c.args.at c.args.statement.now (map stmt_of c.args.out.now.items)
    (map stmt_of c.add.new.out.items) _ _ c.in_ok-label-in-Continue.label c.in-Continue.is c.in_ok-label-in-Continue.ensures c.in_ok-add-in-Continue.ensures

pub play_at-returns-in_ok-add-in-Do-clause-plays : goal.play_at-returns-in_ok-add-in-Do-clause-plays
play_at-returns-in_ok-add-in-Do-clause-plays t c =
    gone_on (making c.args.about.now) (loops_of c.args.loops.now) c.args.at c.args.statement.now (map stmt_of c.args.out.now.items)
    (map stmt_of c.add-in-Do.new.out.items) _ _ (map stmt_of c.add_part_call.new.out.items) c.in-Do.is c.in_ok-add_part_call-in-Do.ensures
    c.in_ok-add-in-Do.ensures
