use Rattle.std.proofs.Common.{sym, ◌∙◌, ◌≤◌, subst, drop}
use Rattle.gen_members.proofs.Judging.{text_told, nothing_told}
use Rattle.gen_members.proofs.exceeding.first_exceeded.Goals as goal

pub returns-then-has_long_behind : goal.returns-then-has_long_behind
returns-then-has_long_behind c = text_told c.args.code_size c.args.locals c.args.pool.now (drop c.args.old c.args.pool.now)
    c.if-code_size-gt-MOST_CODE.false c.if-locals-gt-MOST_LOCALS.false
    (subst (λ n. n ≤ 65534) c.len.ensures c.if-len-gt-MOST_CONSTANTS.false)
    (sym c.has_long_behind.ensures ∙ c.if-has_long_behind.true)

pub returns : goal.returns
returns c = nothing_told c.args.code_size c.args.locals c.args.pool.now (drop c.args.old c.args.pool.now)
    c.if-code_size-gt-MOST_CODE.false c.if-locals-gt-MOST_LOCALS.false
    (subst (λ n. n ≤ 65534) c.len.ensures c.if-len-gt-MOST_CONSTANTS.false)
    (sym c.has_long_behind.ensures ∙ c.if-has_long_behind.false)
