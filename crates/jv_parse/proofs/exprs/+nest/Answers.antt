use Rattle.std.proofs.Common.{◌≡◌, ◌++◌, ◌∷◌, [], refl, sym, ◌∙◌, ◌-◌, arith}
use Rattle.std.proofs.lemmas.Grind.{common_steps}
use Rattle.std.specs.Prelude.{map}
use Rattle.std.proofs.lemmas.Result.{err_from_is_err_and}
use Rattle.std.proofs.lemmas.List.{map_push}
use Rattle.mg_read.proofs.Loop.{Left-more, Left-done}
use Rattle.jv_tree.proofs.ViewLaws.{views}
use Rattle.jv_tree.specs.declared.token.Sign.TheVariants as signs
use Rattle.jv_tree.specs.View.{expr_of}
use Rattle.jv_grammar.specs.Exprs.{word_with, arguments_at, closed_at, joined_with, member_with, named_at, named_with, primary_at}
use Rattle.jv_grammar.specs.Exprs.{primary_with, signed_with, tail_with, unary_at, unary_with, word_primary_at, next_arg_with, args_with}
use Rattle.jv_grammar.specs.Exprs.{tail_at, post_at, is_op, joined_at, binary_at, expr_at}
use Rattle.jv_grammar.specs.Base.{is_sign}
use Rattle.jv_parse.proofs.Turns.{Growing-more, Growing-done, Growing-fails}
use Rattle.jv_parse.proofs.ExprTurns.{Left-fails, post_start, post_fails, tail_at_shorter, chain_start, chain_fails, chain_is}
use Rattle.jv_parse.proofs.ExprTurns.{joined_at_shorter, next_arg_is, arg_shorter, args_start, args_fails, depth_push, arguments_zero}
use Rattle.jv_parse.proofs.ExprTurns.{arguments_unopened, arguments_empty, arguments_unread, arguments_unclosed, arguments_done}
use Rattle.jv_parse.proofs.ExprTurns.{closed_zero, closed_unread, closed_unclosed, closed_done}
use Rattle.jv_parse.proofs.exprs.+nest.Goals as goal

-- ---- arguments

pub args_of-returns-in_err-first-clause-read : goal.args_of-returns-in_err-first-clause-read
args_of-returns-in_err-first-clause-read t c =
    let p = err_from_is_err_and c.from_residual.result c.from_residual.ensures.1 in
    rw (p.1, p.2) (args_fails c.in_err-first.field-0.0 c.args.room c.args.levels c.args.tokens.now c.in_err-first.ensures.read)

pub args_of-more-init : goal.args_of-more-init
args_of-more-init t c =
    let first = c.in_ok-first.first.value in
    let e : map expr_of c.push.new.self.items ≡ expr_of first ∷ [] = rw (c.in_ok-push.ensures.ok, c.new-args.ensures, c.into_inner.ensures)
    refl in (
      rw e (args_start c.args.room c.args.levels c.args.tokens.now (expr_of first) c.in_ok-first.rest.now c.in_ok-first.ensures.read),
      rw e (omega (arith, c.in_ok-first.ensures.deep)),
    )

pub args_of-returns-in_err-arg-clause-read : goal.args_of-returns-in_err-arg-clause-read
args_of-returns-in_err-arg-clause-read t c =
    let p = err_from_is_err_and c.from_residual-in_err-arg.result c.from_residual-in_err-arg.ensures.1 in
    let next = next_arg_is c.args.room c.args.levels c.in-Some.field-0-0 c.more.rest.now c.in-Some.next.now (sym c.in-Some.ensures.it) in
    rw (p.1, p.2)
    (Left-fails (is_sign signs.Comma) (next_arg_with (expr_at c.args.room c.args.levels)) c.in_err-arg.field-0.0
    (map expr_of c.more.args.items) c.more.rest.now
    (args_with (expr_at c.args.room c.args.levels) c.args.tokens.now) (sym c.in-Some.ensures.comes) (rw next c.in_err-arg.ensures.read)
    c.more.invariant.0)

pub args_of-more-smaller : goal.args_of-more-smaller
args_of-more-smaller t c =
    let next = next_arg_is c.args.room c.args.levels c.in-Some.field-0-0 c.more.rest.now c.in-Some.next.now (sym c.in-Some.ensures.it) in
    arg_shorter c.args.room c.args.levels c.more.rest.now (expr_of c.in_ok-arg.arg.value) c.in_ok-arg.after.now
    (next ∙ c.in_ok-arg.ensures.read)

pub args_of-more-preserved : goal.args_of-more-preserved
args_of-more-preserved t c =
    let arg = c.in_ok-arg.arg.value in
    let next = next_arg_is c.args.room c.args.levels c.in-Some.field-0-0 c.more.rest.now c.in-Some.next.now (sym c.in-Some.ensures.it) in
    let read = next ∙ c.in_ok-arg.ensures.read in
    let shorter = arg_shorter c.args.room c.args.levels c.more.rest.now (expr_of arg) c.in_ok-arg.after.now read in
    let e : map expr_of c.push-in-Some.new.self.items ≡ map expr_of c.more.args.items ++ expr_of arg ∷ [] =
    rw (c.in_ok-push-2.ensures.ok, c.into_inner-in-Some.ensures) (map_push _ c.more.args.items arg) in
    let deep = depth_push (map expr_of c.more.args.items) (expr_of arg) in (
      rw e (Left-more (is_sign signs.Comma) (next_arg_with (expr_at c.args.room c.args.levels)) (map expr_of c.more.args.items)
          c.more.rest.now (expr_of arg) c.in_ok-arg.after.now
          (args_with (expr_at c.args.room c.args.levels) c.args.tokens.now) (sym c.in-Some.ensures.comes) read shorter
          c.more.invariant.0),
      rw (e, deep, ← c.more.invariant.1, ← c.in_ok-arg.ensures.deep) c.max-deepest.ensures,
    )

pub args_of-returns-clause-read : goal.args_of-returns-clause-read
args_of-returns-clause-read t c =
    Left-done (is_sign signs.Comma) (next_arg_with (expr_at c.args.room c.args.levels)) (map expr_of c.more.args.items) c.more.rest.now
    (args_with (expr_at c.args.room c.args.levels) c.args.tokens.now) (sym c.in_default.ensures.comes) c.more.invariant.0

pub arguments_of-returns-then-room-eq0-clause-read : goal.arguments_of-returns-then-room-eq0-clause-read
arguments_of-returns-then-room-eq0-clause-read t c = arguments_zero c.args.room c.args.levels c.args.tokens.now c.if-room-eq0.true

pub arguments_of-returns-in_err-rest-clause-read : goal.arguments_of-returns-in_err-rest-clause-read
arguments_of-returns-in_err-rest-clause-read t c =
    let p = err_from_is_err_and c.from_residual.result c.from_residual.ensures.1 in
    rw (p.1, p.2) (arguments_unopened c.in_err-rest.field-0.0 c.args.room c.args.levels c.args.tokens.now (omega arith)
    c.in_err-rest.ensures)

pub arguments_of-returns-in-Some-clause-read : goal.arguments_of-returns-in-Some-clause-read
arguments_of-returns-in-Some-clause-read t c =
    rw c.new.ensures
    (arguments_empty c.args.room c.args.levels c.args.tokens.now c.in_ok-rest.field-0-0 c.in-Some.field-0-0 c.in_ok-rest.rest.now
    c.in-Some.rest.now (omega arith)
    c.in_ok-rest.ensures (sym c.in-Some.ensures.comes) (sym c.in-Some.ensures.it))

pub arguments_of-returns-in_err-args-clause-read : goal.arguments_of-returns-in_err-args-clause-read
arguments_of-returns-in_err-args-clause-read t c =
    let p = err_from_is_err_and c.from_residual-in_err-args.result c.from_residual-in_err-args.ensures.1 in
    rw (p.1, p.2)
    (arguments_unread c.in_err-args.field-0.0 c.args.room c.args.levels c.args.tokens.now c.in_ok-rest.field-0-0 c.in_ok-rest.rest.now
    (omega arith)
    c.in_ok-rest.ensures (sym c.in_default.ensures.comes) c.in_err-args.ensures.read)

pub arguments_of-returns-in_err-rest-2-clause-read : goal.arguments_of-returns-in_err-rest-2-clause-read
arguments_of-returns-in_err-rest-2-clause-read t c =
    let p = err_from_is_err_and c.from_residual-in_err-rest-2.result c.from_residual-in_err-rest-2.ensures.1 in
    rw (p.1, p.2)
    (arguments_unclosed c.in_err-rest-2.field-0.0 c.args.room c.args.levels c.args.tokens.now c.in_ok-rest.field-0-0 c.in_ok-rest.rest.now
    c.in_ok-args.rest.now (map expr_of c.in_ok-args.args.items) (omega arith)
    c.in_ok-rest.ensures (sym c.in_default.ensures.comes) c.in_ok-args.ensures.read c.in_err-rest-2.ensures)

pub arguments_of-returns-clause-read : goal.arguments_of-returns-clause-read
arguments_of-returns-clause-read t c =
    arguments_done c.args.room c.args.levels c.args.tokens.now c.in_ok-rest.field-0-0 c.in_ok-rest-2.field-0-0 c.in_ok-rest.rest.now
    c.in_ok-args.rest.now c.in_ok-rest-2.rest.now (map expr_of c.in_ok-args.args.items) (omega arith)
    c.in_ok-rest.ensures (sym c.in_default.ensures.comes) c.in_ok-args.ensures.read c.in_ok-rest-2.ensures

-- ---- parentheses

pub closed_of-returns-then-room-eq0-clause-read : goal.closed_of-returns-then-room-eq0-clause-read
closed_of-returns-then-room-eq0-clause-read t c = closed_zero c.args.room c.args.levels c.args.tokens.now c.if-room-eq0.true

pub closed_of-returns-in_err-inner-clause-read : goal.closed_of-returns-in_err-inner-clause-read
closed_of-returns-in_err-inner-clause-read t c =
    let p = err_from_is_err_and c.from_residual.result c.from_residual.ensures.1 in
    rw (p.1, p.2) (closed_unread c.in_err-inner.field-0.0 c.args.room c.args.levels c.args.tokens.now (omega arith)
    c.in_err-inner.ensures.read)

pub closed_of-returns-in_err-rest-clause-read : goal.closed_of-returns-in_err-rest-clause-read
closed_of-returns-in_err-rest-clause-read t c =
    let p = err_from_is_err_and c.from_residual-in_err-rest.result c.from_residual-in_err-rest.ensures.1 in
    rw (p.1, p.2)
    (closed_unclosed c.in_err-rest.field-0.0 c.args.room c.args.levels c.args.tokens.now c.in_ok-inner.rest.now
    (expr_of c.in_ok-inner.inner.value) (omega arith) c.in_ok-inner.ensures.read c.in_err-rest.ensures)

pub closed_of-returns-clause-read : goal.closed_of-returns-clause-read
closed_of-returns-clause-read t c =
    closed_done c.args.room c.args.levels c.args.tokens.now c.in_ok-inner.rest.now c.in_ok-rest.rest.now (expr_of c.in_ok-inner.inner.value)
    c.in_ok-rest.field-0-0 (omega arith) c.in_ok-inner.ensures.read c.in_ok-rest.ensures

-- ---- what stands behind "."

pub post_of-returns-in_err-left-clause-read : goal.post_of-returns-in_err-left-clause-read
post_of-returns-in_err-left-clause-read t c =
    let p = err_from_is_err_and c.from_residual.result c.from_residual.ensures.1 in
    rw (p.1, p.2) (post_fails c.in_err-left.field-0.0 c.args.room c.args.levels c.args.tokens.now c.in_err-left.ensures.read)

pub post_of-tails-init : goal.post_of-tails-init
post_of-tails-init t c = (
  post_start c.args.room c.args.levels c.args.tokens.now (expr_of c.in_ok-left.left.value) c.in_ok-left.rest.now
      c.in_ok-left.ensures.read,
  c.in_ok-left.ensures.deep,
)

pub post_of-returns-in_err-longer-clause-read : goal.post_of-returns-in_err-longer-clause-read
post_of-returns-in_err-longer-clause-read t c =
    let p = err_from_is_err_and c.from_residual-in_err-longer.result c.from_residual-in_err-longer.ensures.1 in
    let goes = sym c.is_sign.ensures ∙ c.tails-test.true in
    rw (p.1, p.2)
    (Growing-fails (is_sign signs.Dot) (tail_at c.args.room c.args.levels) c.in_err-longer.field-0.0 (expr_of c.tails.left.value)
    c.tails.rest.now (post_at c.args.room c.args.levels c.args.tokens.now) goes
    c.in_err-longer.ensures.read c.tails.invariant.0)

pub post_of-tails-smaller : goal.post_of-tails-smaller
post_of-tails-smaller t c = tail_at_shorter c.args.room c.args.levels (expr_of c.tails.left.value) c.tails.rest.now
    (expr_of c.in_ok-longer.longer.value) c.in_ok-longer.after.now c.in_ok-longer.ensures.read

pub post_of-tails-preserved : goal.post_of-tails-preserved
post_of-tails-preserved t c =
    let goes = sym c.is_sign.ensures ∙ c.tails-test.true in
    let shorter = tail_at_shorter c.args.room c.args.levels (expr_of c.tails.left.value) c.tails.rest.now
    (expr_of c.in_ok-longer.longer.value) c.in_ok-longer.after.now c.in_ok-longer.ensures.read in (
      Growing-more (is_sign signs.Dot) (tail_at c.args.room c.args.levels) (expr_of c.tails.left.value) c.tails.rest.now
          (expr_of c.in_ok-longer.longer.value) c.in_ok-longer.after.now
          (post_at c.args.room c.args.levels c.args.tokens.now) goes c.in_ok-longer.ensures.read shorter c.tails.invariant.0,
      c.in_ok-longer.ensures.deep,
    )

pub post_of-returns-clause-read : goal.post_of-returns-clause-read
post_of-returns-clause-read t c =
    Growing-done (is_sign signs.Dot) (tail_at c.args.room c.args.levels) (expr_of c.tails.left.value) c.tails.rest.now
    (post_at c.args.room c.args.levels c.args.tokens.now)
    (sym c.is_sign.ensures ∙ c.tails-test.false) c.tails.invariant.0

-- ---- operators

pub chain_of-returns-then-looseness-eq0-clause-read : goal.chain_of-returns-then-looseness-eq0-clause-read
chain_of-returns-then-looseness-eq0-clause-read t c =
    rw (chain_is c.args.room c.args.looseness c.args.levels c.args.tokens.now c.if-looseness-eq0.true) c.unary_of.ensures.read

pub chain_of-returns-in_err-left-clause-read : goal.chain_of-returns-in_err-left-clause-read
chain_of-returns-in_err-left-clause-read t c =
    let p = err_from_is_err_and c.from_residual.result c.from_residual.ensures.1 in
    rw (p.1, p.2) (chain_fails c.in_err-left.field-0.0 c.args.room c.args.looseness c.args.levels c.args.tokens.now (omega arith)
    c.in_err-left.ensures.read)

pub chain_of-parts-init : goal.chain_of-parts-init
chain_of-parts-init t c = (
  chain_start c.args.room c.args.looseness c.args.levels c.args.tokens.now (expr_of c.in_ok-left.left.value) c.in_ok-left.rest.now
      (omega arith) c.in_ok-left.ensures.read,
  c.in_ok-left.ensures.deep,
)

pub chain_of-returns-in_err-longer-clause-read : goal.chain_of-returns-in_err-longer-clause-read
chain_of-returns-in_err-longer-clause-read t c =
    let p = err_from_is_err_and c.from_residual-in_err-longer.result c.from_residual-in_err-longer.ensures.1 in
    let goes = sym c.is_op.ensures ∙ c.parts-test.true in
    rw (p.1, p.2)
    (Growing-fails (is_op (c.args.looseness - 1)) (joined_at c.args.room (c.args.looseness - 1) c.args.levels) c.in_err-longer.field-0.0
    (expr_of c.parts.left.value) c.parts.rest.now
    (binary_at c.args.room c.args.looseness c.args.levels c.args.tokens.now) goes c.in_err-longer.ensures.read c.parts.invariant.0)

pub chain_of-parts-smaller : goal.chain_of-parts-smaller
chain_of-parts-smaller t c =
    joined_at_shorter c.args.room (c.args.looseness - 1) c.args.levels (expr_of c.parts.left.value) c.parts.rest.now
    (expr_of c.in_ok-longer.longer.value) c.in_ok-longer.after.now c.in_ok-longer.ensures.read

pub chain_of-parts-preserved : goal.chain_of-parts-preserved
chain_of-parts-preserved t c =
    let goes = sym c.is_op.ensures ∙ c.parts-test.true in
    let shorter = joined_at_shorter c.args.room (c.args.looseness - 1) c.args.levels (expr_of c.parts.left.value) c.parts.rest.now
    (expr_of c.in_ok-longer.longer.value) c.in_ok-longer.after.now c.in_ok-longer.ensures.read in (
      Growing-more (is_op (c.args.looseness - 1)) (joined_at c.args.room (c.args.looseness - 1) c.args.levels) (expr_of c.parts.left.value)
          c.parts.rest.now (expr_of c.in_ok-longer.longer.value) c.in_ok-longer.after.now
          (binary_at c.args.room c.args.looseness c.args.levels c.args.tokens.now) goes c.in_ok-longer.ensures.read shorter
          c.parts.invariant.0,
      c.in_ok-longer.ensures.deep,
    )

pub chain_of-returns-clause-read : goal.chain_of-returns-clause-read
chain_of-returns-clause-read t c =
    Growing-done (is_op (c.args.looseness - 1)) (joined_at c.args.room (c.args.looseness - 1) c.args.levels) (expr_of c.parts.left.value)
    c.parts.rest.now
    (binary_at c.args.room c.args.looseness c.args.levels c.args.tokens.now) (sym c.is_op.ensures ∙ c.parts-test.false) c.parts.invariant.0

pub joined_of-fit-requires : goal.joined_of-fit-requires
unfolding joined_at binary_at joined_with
joined_of-fit-requires t c = grind (arith, views)

pub joined_of-returns-clause-read : goal.joined_of-returns-clause-read
unfolding joined_at binary_at joined_with
joined_of-returns-clause-read t c = grind (arith, views)

pub named_of-fit-requires : goal.named_of-fit-requires
unfolding named_at arguments_at named_with
named_of-fit-requires t c = grind (arith, views)

pub named_of-leaf-requires : goal.named_of-leaf-requires
unfolding named_at arguments_at named_with
named_of-leaf-requires t c = grind (arith, views)

pub named_of-returns-clause-read : goal.named_of-returns-clause-read
unfolding named_at arguments_at named_with
named_of-returns-clause-read t c = grind (arith, views)

pub named_of-returns-then-is_sign-clause-read : goal.named_of-returns-then-is_sign-clause-read
unfolding named_at arguments_at named_with
named_of-returns-then-is_sign-clause-read t c = grind (arith, views)

pub primary_of-leaf-requires : goal.primary_of-leaf-requires
unfolding primary_at primary_with signed_with closed_at word_primary_at
primary_of-leaf-requires t c = grind (arith, views)

pub primary_of-leaf-requires-in-Text : goal.primary_of-leaf-requires-in-Text
unfolding primary_at primary_with signed_with closed_at word_primary_at
primary_of-leaf-requires-in-Text t c = grind (arith, views)

pub primary_of-returns-else-number-gt2147483647-clause-read : goal.primary_of-returns-else-number-gt2147483647-clause-read
unfolding primary_at primary_with signed_with closed_at word_primary_at
primary_of-returns-else-number-gt2147483647-clause-read t c = grind (arith, views)

pub primary_of-returns-in_ok-copy-in-Text-clause-read : goal.primary_of-returns-in_ok-copy-in-Text-clause-read
unfolding primary_at primary_with signed_with closed_at word_primary_at
primary_of-returns-in_ok-copy-in-Text-clause-read t c = grind (arith, views)

pub tail_of-fit-requires : goal.tail_of-fit-requires
unfolding tail_at arguments_at tail_with member_with
tail_of-fit-requires t c = grind (arith, views)

pub tail_of-fit-requires-2 : goal.tail_of-fit-requires-2
unfolding tail_at arguments_at tail_with member_with
tail_of-fit-requires-2 t c = grind (arith, views)

pub tail_of-returns-clause-read : goal.tail_of-returns-clause-read
unfolding tail_at arguments_at tail_with member_with
tail_of-returns-clause-read t c = grind (arith, views)

pub tail_of-returns-then-is_sign-clause-read : goal.tail_of-returns-then-is_sign-clause-read
unfolding tail_at arguments_at tail_with member_with
tail_of-returns-then-is_sign-clause-read t c = grind (arith, views)

pub unary_of-fit-requires : goal.unary_of-fit-requires
unfolding unary_at post_at unary_with
unary_of-fit-requires t c = grind (arith, views)

pub unary_of-fit-requires-in-Some-past_sign : goal.unary_of-fit-requires-in-Some-past_sign
unfolding unary_at post_at unary_with
unary_of-fit-requires-in-Some-past_sign t c = grind (arith, views)

pub unary_of-returns-in-Some-clause-read : goal.unary_of-returns-in-Some-clause-read
unfolding unary_at post_at unary_with
unary_of-returns-in-Some-clause-read t c = grind (arith, views)

pub unary_of-returns-in-Some-past_sign-clause-read : goal.unary_of-returns-in-Some-past_sign-clause-read
unfolding unary_at post_at unary_with
unary_of-returns-in-Some-past_sign-clause-read t c = grind (arith, views)

pub arguments_of-returns-clause-deep : goal.arguments_of-returns-clause-deep
arguments_of-returns-clause-deep t c = grind (arith, common_steps)

pub primary_of-returns-else-eq-2-clause-read : goal.primary_of-returns-else-eq-2-clause-read
unfolding primary_at primary_with signed_with closed_at word_primary_at
primary_of-returns-else-eq-2-clause-read t c = grind (arith, views)

pub primary_of-returns-in_default-clause-read : goal.primary_of-returns-in_default-clause-read
unfolding primary_at primary_with signed_with closed_at word_primary_at
primary_of-returns-in_default-clause-read t c = grind (arith, views)

pub primary_of-returns-then-eq-2-clause-read : goal.primary_of-returns-then-eq-2-clause-read
unfolding primary_at primary_with signed_with closed_at word_primary_at
primary_of-returns-then-eq-2-clause-read t c = grind (arith, views)

pub primary_of-returns-then-eq-clause-read : goal.primary_of-returns-then-eq-clause-read
unfolding primary_at primary_with signed_with closed_at word_primary_at
primary_of-returns-then-eq-clause-read t c = grind (arith, views)

pub primary_of-returns-then-levels-eq0-clause-read : goal.primary_of-returns-then-levels-eq0-clause-read
unfolding primary_at primary_with signed_with closed_at word_primary_at
primary_of-returns-then-levels-eq0-clause-read t c = grind (arith, views)

pub primary_of-returns-then-number-gt2147483647-clause-read : goal.primary_of-returns-then-number-gt2147483647-clause-read
unfolding primary_at primary_with signed_with closed_at word_primary_at
primary_of-returns-then-number-gt2147483647-clause-read t c = grind (arith, views)

pub word_primary_of-returns-in-None-clause-read : goal.word_primary_of-returns-in-None-clause-read
unfolding word_primary_at named_at word_with
word_primary_of-returns-in-None-clause-read t c = grind (arith, views)

pub word_primary_of-returns-in_ok-new-in-Some-clause-read : goal.word_primary_of-returns-in_ok-new-in-Some-clause-read
unfolding word_primary_at named_at word_with
word_primary_of-returns-in_ok-new-in-Some-clause-read t c = grind (arith, views)
