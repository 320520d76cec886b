use Rattle.std.proofs.Common.{sym, ◌∙◌}
use Rattle.mg_calls.proofs.LineLemmas.{nothing_said, comment_said, bad_start}
use Rattle.mg_calls.proofs.line.read_line.Goals as goal

pub returns-in-None : goal.returns-in-None
returns-in-None c = nothing_said c.args.line.now c.in-None.ensures.cases

pub returns-then-first-eq35 : goal.returns-then-first-eq35
returns-then-first-eq35 c = comment_said c.args.line.now c.in-Some.first.now c.in-Some.field-0-1.now c.in-Some.ensures.cases.0
    c.if-first-eq35.true

pub returns-else-is_name_byte : goal.returns-else-is_name_byte
returns-else-is_name_byte c = bad_start c.args.line.now c.in-Some.first.now c.in-Some.field-0-1.now c.in-Some.ensures.cases.0
    c.if-first-eq35.false (sym c.is_name_byte.ensures ∙ c.if-is_name_byte.false)
