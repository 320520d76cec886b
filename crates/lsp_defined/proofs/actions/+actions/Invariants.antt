use Rattle.std.proofs.Common.{◌≡◌, ◌+◌, ◌*◌, ◌++◌, drop, map}
use Rattle.scr_tree.specs.View.{statements, bodies}
use Rattle.scr_tree.specs.Actions.{actions, actions_in, next, next_in}
use Rattle.lsp_defined.specs.inner.View.{act}
use Rattle.lsp_defined.proofs.actions.+actions.Given as goal

abbrev pub invariant-collect_all-loop-statement : goal.invariant-collect_all-loop-statement
invariant-collect_all-loop-statement l = record {
  next : next l.me l.fn.number (statements l.body) ≡ next l.me l.number (statements (drop l.statement-index l.body));
  actions : map act l.fn.out.items ++ actions l.me l.fn.number (statements l.body) ≡ map act l.out.items ++ actions l.me l.number
      (statements (drop l.statement-index l.body));
}

abbrev pub invariant-collect_in-loop-branch : goal.invariant-collect_in-loop-branch
invariant-collect_in-loop-branch l = record {
  next : next_in l.me l.fn.number (bodies l.branches) ≡ next_in l.me l.number (bodies (drop l.branch-index l.branches));
  actions : map act l.fn.out.items ++ actions_in l.me l.fn.number (bodies l.branches) ≡ map act l.out.items ++ actions_in l.me l.number
      (bodies (drop l.branch-index l.branches));
}

abbrev pub decreases-collect_at : goal.decreases-collect_at
decreases-collect_at l = 3 * goal.size-collect_at l

abbrev pub decreases-collect_all : goal.decreases-collect_all
decreases-collect_all l = 3 * goal.size-collect_all l + 1

abbrev pub decreases-collect_in : goal.decreases-collect_in
decreases-collect_in l = 3 * goal.size-collect_in l + 2
