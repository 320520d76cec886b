use Rattle.std.proofs.Common.{◌≡◌, ◌++◌, ◌∷◌, [], map, sym, ◌∙◌, arith}
use Rattle.std.proofs.lemmas.Grind.{common_steps}
use Rattle.std.proofs.lemmas.Result.{err_from_is_err_and}
use Rattle.std.proofs.lemmas.List.{map_push}
use Rattle.scr_tree.specs.Tok.{toks}
use Rattle.scr_tree.specs.declared.token.Mark.TheVariants as marks
use Rattle.mg_read.specs.Reader.{all_of}
use Rattle.mg_read.proofs.Loop.{Left-init, Left-more, Left-done, with_front}
use Rattle.mg_read.proofs.Turns.{Left-front}
use Rattle.scr_parse.specs.inner.Reading.{is_at, not_closed, nested_at, block_with, other_with, choice_with, rec_with}
use Rattle.scr_parse.proofs.Steps.{length_toks, not_closed_goes, not_closed_stops}
use Rattle.scr_parse.proofs.Turns.{Left-refused}
use Rattle.scr_parse.proofs.nest.+nest.Goals as goal

pub statements_of-statements-init : goal.statements_of-statements-init
statements_of-statements-init g t c =
    let f = nested_at (g.N.Nest.plain_tree_at c.args.types.now.declared.items) g.N.Nest.choice_tree g.N.Nest.loop_tree c.args.levels in
    rw c.new-statements.ensures (Left-init not_closed f (toks c.args.tokens.now))

pub statements_of-returns-in_err-statement : goal.statements_of-returns-in_err-statement
statements_of-returns-in_err-statement g t c =
    let p = err_from_is_err_and c.from_residual.result c.from_residual.ensures.1 in
    let f = nested_at (g.N.Nest.plain_tree_at c.args.types.now.declared.items) g.N.Nest.choice_tree g.N.Nest.loop_tree c.args.levels in
    let goes = not_closed_goes c.is_mark.result (toks c.statements.rest.now) c.is_mark.ensures c.statements-test.true in
    rw (p.1, p.2) (Left-refused not_closed f c.in_err-statement.field-0.0 (map g.N.Nest.tree_of c.statements.statements.items)
    (toks c.statements.rest.now)
    (all_of not_closed f (toks c.args.tokens.now)) goes c.in_err-statement.ensures c.statements.invariant)

pub statements_of-statements-smaller : goal.statements_of-statements-smaller
statements_of-statements-smaller g t c =
    let h = c.requires.shorter.statement c.args.levels (toks c.statements.rest.now) (g.N.Nest.tree_of c.in_ok-statement.statement)
    (toks c.in_ok-statement.after.now) c.in_ok-statement.ensures in
    omega (arith, h, length_toks c.statements.rest.now, length_toks c.in_ok-statement.after.now)

pub statements_of-statements-preserved : goal.statements_of-statements-preserved
statements_of-statements-preserved g t c =
    let s = c.in_ok-statement.statement in
    let f = nested_at (g.N.Nest.plain_tree_at c.args.types.now.declared.items) g.N.Nest.choice_tree g.N.Nest.loop_tree c.args.levels in
    let goes = not_closed_goes c.is_mark.result (toks c.statements.rest.now) c.is_mark.ensures c.statements-test.true in
    let e : map g.N.Nest.tree_of c.push.new.self.items ≡ map g.N.Nest.tree_of c.statements.statements.items ++ g.N.Nest.tree_of s ∷ [] =
    rw c.in_ok-push.ensures.ok (map_push _ c.statements.statements.items s) in
    let less = c.requires.shorter.statement c.args.levels (toks c.statements.rest.now) (g.N.Nest.tree_of s)
    (toks c.in_ok-statement.after.now) c.in_ok-statement.ensures in
    rw e (Left-more not_closed f (map g.N.Nest.tree_of c.statements.statements.items) (toks c.statements.rest.now) (g.N.Nest.tree_of s)
    (toks c.in_ok-statement.after.now)
    (all_of not_closed f (toks c.args.tokens.now)) goes c.in_ok-statement.ensures less c.statements.invariant)

pub statements_of-returns : goal.statements_of-returns
statements_of-returns g t c =
    let f = nested_at (g.N.Nest.plain_tree_at c.args.types.now.declared.items) g.N.Nest.choice_tree g.N.Nest.loop_tree c.args.levels in
    let stops = not_closed_stops c.is_mark.result (toks c.statements.rest.now) c.is_mark.ensures c.statements-test.false in
    Left-done not_closed f (map g.N.Nest.tree_of c.statements.statements.items) (toks c.statements.rest.now)
    (all_of not_closed f (toks c.args.tokens.now)) stops c.statements.invariant

pub more_branches_of-others-init : goal.more_branches_of-others-init
more_branches_of-others-init g t c =
    let one = nested_at (g.N.Nest.plain_tree_at c.args.types.now.declared.items) g.N.Nest.choice_tree g.N.Nest.loop_tree c.args.levels in
    let f = other_with one in
    Left-front (is_at marks.Or) f (map (λ b. map g.N.Nest.tree_of b.items) c.args.branches.items) (toks c.args.tokens.now)

pub more_branches_of-returns-in_err-other : goal.more_branches_of-returns-in_err-other
more_branches_of-returns-in_err-other g t c =
    let p = err_from_is_err_and c.from_residual.result c.from_residual.ensures.1 in
    let one = nested_at (g.N.Nest.plain_tree_at c.args.types.now.declared.items) g.N.Nest.choice_tree g.N.Nest.loop_tree c.args.levels in
    let f = other_with one in
    let goes : is_at marks.Or (toks c.others.rest.now) ≡ _ = sym c.is_mark.ensures ∙ c.others-test.true in
    rw (p.1, p.2) (Left-refused (is_at marks.Or) f c.in_err-other.field-0.0
    (map (λ b. map g.N.Nest.tree_of b.items) c.others.branches.items) (toks c.others.rest.now)
    (with_front (map (λ b. map g.N.Nest.tree_of b.items) c.args.branches.items)
    (all_of (is_at marks.Or) f (toks c.args.tokens.now))) goes c.in_err-other.ensures c.others.invariant)

pub more_branches_of-others-smaller : goal.more_branches_of-others-smaller
more_branches_of-others-smaller g t c =
    let h = c.requires.shorter.other c.args.levels (toks c.others.rest.now) (map g.N.Nest.tree_of c.in_ok-other.other.items)
    (toks c.in_ok-other.after.now) c.in_ok-other.ensures in
    omega (arith, h, length_toks c.others.rest.now, length_toks c.in_ok-other.after.now)

pub more_branches_of-others-preserved : goal.more_branches_of-others-preserved
more_branches_of-others-preserved g t c =
    let s = c.in_ok-other.other in
    let one = nested_at (g.N.Nest.plain_tree_at c.args.types.now.declared.items) g.N.Nest.choice_tree g.N.Nest.loop_tree c.args.levels in
    let f = other_with one in
    let goes = sym c.is_mark.ensures ∙ c.others-test.true in
    let e : map (λ b. map g.N.Nest.tree_of b.items) c.push.new.self.items ≡ map (λ b. map g.N.Nest.tree_of b.items) c.others.branches.items
    ++ map g.N.Nest.tree_of s.items ∷ [] = rw c.in_ok-push.ensures.ok (map_push _ c.others.branches.items s) in
    let less = c.requires.shorter.other c.args.levels (toks c.others.rest.now) (map g.N.Nest.tree_of s.items)
    (toks c.in_ok-other.after.now) c.in_ok-other.ensures in
    rw e (Left-more (is_at marks.Or) f (map (λ b. map g.N.Nest.tree_of b.items) c.others.branches.items) (toks c.others.rest.now)
    (map g.N.Nest.tree_of s.items) (toks c.in_ok-other.after.now)
    (with_front (map (λ b. map g.N.Nest.tree_of b.items) c.args.branches.items)
    (all_of (is_at marks.Or) f (toks c.args.tokens.now))) goes c.in_ok-other.ensures less c.others.invariant)

pub more_branches_of-returns : goal.more_branches_of-returns
more_branches_of-returns g t c =
    let one = nested_at (g.N.Nest.plain_tree_at c.args.types.now.declared.items) g.N.Nest.choice_tree g.N.Nest.loop_tree c.args.levels in
    let f = other_with one in
    let stops = sym c.is_mark.ensures ∙ c.others-test.false in
    Left-done (is_at marks.Or) f (map (λ b. map g.N.Nest.tree_of b.items) c.others.branches.items) (toks c.others.rest.now)
    (with_front (map (λ b. map g.N.Nest.tree_of b.items) c.args.branches.items) (all_of (is_at marks.Or) f (toks c.args.tokens.now)))
    stops c.others.invariant

pub block_of-returns : goal.block_of-returns
unfolding block_with
block_of-returns g t c = grind (arith, common_steps)

pub choice_of-returns : goal.choice_of-returns
unfolding choice_with
choice_of-returns g t c = grind (arith, common_steps)

pub rec_of-returns : goal.rec_of-returns
unfolding rec_with
rec_of-returns g t c = grind (arith, common_steps)
