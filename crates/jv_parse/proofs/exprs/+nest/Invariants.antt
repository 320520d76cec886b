use Rattle.std.proofs.Common.{◌≡◌, ◌+◌, ◌*◌, length}
use Rattle.std.specs.Prelude.{map}
use Rattle.mg_read.proofs.Loop.{Left}
use Rattle.jv_tree.specs.declared.token.Sign.TheVariants as signs
use Rattle.jv_tree.specs.Depth.{depth, depth_of_args}
use Rattle.jv_tree.specs.View.{expr_of, exprs_of}
use Rattle.jv_grammar.specs.Base.{is_sign}
use Rattle.jv_grammar.specs.Exprs.{next_arg_with, args_with, tail_at, post_at, is_op, joined_at, binary_at, expr_at}
use Rattle.jv_parse.proofs.Turns.{Growing}
use Rattle.jv_parse.proofs.exprs.+nest.Given as goal

-- Each call opens one parenthesis more, or goes one level in, or goes one rank down.
abbrev pub decreases-args_of : goal.decreases-args_of
decreases-args_of l = 600 * l.room + l.levels + 21

abbrev pub decreases-chain_of : goal.decreases-chain_of
decreases-chain_of l = 600 * l.room + l.levels + (7 + 2 * l.looseness)

abbrev pub decreases-joined_of : goal.decreases-joined_of
decreases-joined_of l = 600 * l.room + l.levels + (8 + 2 * l.strength)

abbrev pub decreases-unary_of : goal.decreases-unary_of
decreases-unary_of l = 600 * l.room + l.levels + 6

abbrev pub decreases-post_of : goal.decreases-post_of
decreases-post_of l = 600 * l.room + l.levels + 5

abbrev pub decreases-tail_of : goal.decreases-tail_of
decreases-tail_of l = 600 * l.room + l.levels + 4

abbrev pub decreases-primary_of : goal.decreases-primary_of
decreases-primary_of l = 600 * l.room + l.levels + 4

abbrev pub decreases-word_primary_of : goal.decreases-word_primary_of
decreases-word_primary_of l = 600 * l.room + l.levels + 3

abbrev pub decreases-named_of : goal.decreases-named_of
decreases-named_of l = 600 * l.room + l.levels + 2

abbrev pub decreases-arguments_of : goal.decreases-arguments_of
decreases-arguments_of l = 600 * l.room + l.levels + 1

abbrev pub decreases-closed_of : goal.decreases-closed_of
decreases-closed_of l = 600 * l.room + l.levels + 1

abbrev pub invariant-args_of-more : goal.invariant-args_of-more
invariant-args_of-more l =
    Left (is_sign signs.Comma) (next_arg_with (expr_at l.room l.levels)) (map expr_of l.args.items) l.rest
    (args_with (expr_at l.room l.levels) l.fn.tokens)
    × (l.deepest ≡ depth_of_args (exprs_of (map expr_of l.args.items)))

abbrev pub decreases-args_of-more : goal.decreases-args_of-more
decreases-args_of-more l = length l.rest

abbrev pub invariant-post_of-tails : goal.invariant-post_of-tails
invariant-post_of-tails l =
    Growing (is_sign signs.Dot) (tail_at l.room l.levels) (expr_of l.left.value) l.rest (post_at l.room l.levels l.fn.tokens)
    × (l.deep ≡ depth (expr_of l.left.value))

abbrev pub decreases-post_of-tails : goal.decreases-post_of-tails
decreases-post_of-tails l = length l.rest

abbrev pub invariant-chain_of-parts : goal.invariant-chain_of-parts
invariant-chain_of-parts l =
    Growing (is_op l.strength) (joined_at l.room l.strength l.levels) (expr_of l.left.value) l.rest
    (binary_at l.room l.looseness l.levels l.fn.tokens)
    × (l.deep ≡ depth (expr_of l.left.value))

abbrev pub decreases-chain_of-parts : goal.decreases-chain_of-parts
decreases-chain_of-parts l = length l.rest
