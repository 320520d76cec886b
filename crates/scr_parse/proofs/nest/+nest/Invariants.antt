use Rattle.std.proofs.Common.{◌+◌, ◌*◌, length, map}
use Rattle.scr_tree.specs.Tok.{toks}
use Rattle.scr_tree.specs.declared.token.Mark.TheVariants as marks
use Rattle.mg_read.specs.Reader.{all_of}
use Rattle.mg_read.proofs.Loop.{Left, with_front}
use Rattle.scr_parse.specs.inner.Reading.{is_at, not_closed, nested_at, other_with}
use Rattle.scr_parse.proofs.nest.+nest.Given as goal

-- Each call goes one rank down, or one level in.
abbrev pub decreases-statement_of : goal.decreases-statement_of
decreases-statement_of g l = 7 * l.levels

abbrev pub decreases-statements_of : goal.decreases-statements_of
decreases-statements_of g l = 7 * l.levels + 1

abbrev pub decreases-block_of : goal.decreases-block_of
decreases-block_of g l = 7 * l.levels + 2

abbrev pub decreases-other_of : goal.decreases-other_of
decreases-other_of g l = 7 * l.levels + 3

abbrev pub decreases-more_branches_of : goal.decreases-more_branches_of
decreases-more_branches_of g l = 7 * l.levels + 4

abbrev pub decreases-branches_of : goal.decreases-branches_of
decreases-branches_of g l = 7 * l.levels + 5

abbrev pub decreases-choice_of : goal.decreases-choice_of
decreases-choice_of g l = 7 * l.levels + 6

abbrev pub decreases-rec_of : goal.decreases-rec_of
decreases-rec_of g l = 7 * l.levels + 6

abbrev pub invariant-statements_of-statements : goal.invariant-statements_of-statements
invariant-statements_of-statements g l =
    let f = nested_at (g.N.Nest.plain_tree_at l.types.declared.items) g.N.Nest.choice_tree g.N.Nest.loop_tree l.levels in
    Left not_closed f (map g.N.Nest.tree_of l.statements.items) (toks l.rest) (all_of not_closed f (toks l.fn.tokens))

abbrev pub decreases-statements_of-statements : goal.decreases-statements_of-statements
decreases-statements_of-statements g l = length l.rest

abbrev pub invariant-more_branches_of-others : goal.invariant-more_branches_of-others
invariant-more_branches_of-others g l =
    let f = other_with (nested_at (g.N.Nest.plain_tree_at l.types.declared.items) g.N.Nest.choice_tree g.N.Nest.loop_tree l.levels) in
    Left (is_at marks.Or) f (map (λ b. map g.N.Nest.tree_of b.items) l.branches.items) (toks l.rest)
    (with_front (map (λ b. map g.N.Nest.tree_of b.items) l.fn.branches.items) (all_of (is_at marks.Or) f (toks l.fn.tokens)))

abbrev pub decreases-more_branches_of-others : goal.decreases-more_branches_of-others
decreases-more_branches_of-others g l = length l.rest
