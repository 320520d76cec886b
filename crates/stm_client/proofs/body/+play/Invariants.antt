use Rattle.std.proofs.Common.{◌≡◌, ◌+◌, ◌*◌, ◌++◌, drop, map}
use Rattle.scr_tree.specs.View.{statements, bodies}
use Rattle.jv_tree.specs.View.{stmt_of, group_of}
use Rattle.stm_client.specs.Client.{plays, blocks, groups}
use Rattle.stm_client.specs.View.{making, loops_of, end_of, end_of_branches, past, either}
use Rattle.stm_client.proofs.body.+play.Given as goal

abbrev pub invariant-play-loop-statement : goal.invariant-play-loop-statement
invariant-play-loop-statement l = record {
  end : end_of (making l.about).me l.fn.at (statements l.body)
      ≡ past l.end (end_of (making l.about).me l.end.numbers (statements (drop l.statement-index l.body)));
  plays : map stmt_of l.fn.out.items ++ plays (making l.about) (loops_of l.loops) l.fn.at (statements l.body)
      ≡ map stmt_of l.out.items ++ plays (making l.about) (loops_of l.loops) l.end.numbers (statements (drop l.statement-index l.body));
}

abbrev pub invariant-play_blocks-loop-branch : goal.invariant-play_blocks-loop-branch
invariant-play_blocks-loop-branch l = record {
  end : end_of_branches (making l.about).me l.fn.at (bodies l.branches)
      ≡ either l.end (end_of_branches (making l.about).me l.end.numbers (bodies (drop l.branch-index l.branches)));
  made : map stmt_of l.fn.out.items ++ blocks (making l.about) (loops_of l.loops) l.fn.at (bodies l.branches)
      ≡ map stmt_of l.out.items ++ blocks (making l.about) (loops_of l.loops) l.end.numbers (bodies (drop l.branch-index l.branches));
}

abbrev pub invariant-play_groups-loop-branch : goal.invariant-play_groups-loop-branch
invariant-play_groups-loop-branch l = record {
  end : end_of_branches (making l.about).me l.fn.at (bodies l.branches)
      ≡ either l.end (end_of_branches (making l.about).me l.end.numbers (bodies (drop l.branch-index l.branches)));
  made : map group_of l.fn.out.items ++ groups (making l.about) (loops_of l.loops) l.fn.at (bodies l.branches)
      ≡ map group_of l.out.items ++ groups (making l.about) (loops_of l.loops) l.end.numbers (bodies (drop l.branch-index l.branches));
}

abbrev pub decreases-play_at : goal.decreases-play_at
decreases-play_at l = 4 * goal.size-play_at l

abbrev pub decreases-play : goal.decreases-play
decreases-play l = 4 * goal.size-play l + 1

abbrev pub decreases-play_loop : goal.decreases-play_loop
decreases-play_loop l = 4 * goal.size-play_loop l + 2

abbrev pub decreases-play_blocks : goal.decreases-play_blocks
decreases-play_blocks l = 4 * goal.size-play_blocks l + 2

abbrev pub decreases-play_groups : goal.decreases-play_groups
decreases-play_groups l = 4 * goal.size-play_groups l + 2

abbrev pub decreases-play_own : goal.decreases-play_own
decreases-play_own l = 4 * goal.size-play_own l + 3

abbrev pub decreases-play_other : goal.decreases-play_other
decreases-play_other l = 4 * goal.size-play_other l + 3
