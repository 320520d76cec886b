use Rattle.std.proofs.Common.{sym}
use Rattle.jv_parse.proofs.Sought.{sought_start, sought_later, sought_here, sought_end}
use Rattle.jv_parse.proofs.unsupported.first_unsupported.Goals as goal

pub tokens-init : goal.tokens-init
tokens-init c = sought_start c.args.tokens.now

pub returns-in-Some-unsupported_text : goal.returns-in-Some-unsupported_text
returns-in-Some-unsupported_text c =
    sought_here c.tokens.rest.now c.in-Some.after.now c.in-Some.first.now c.args.tokens.now c.in-Some-unsupported_text.text.now
    c.in-Some.ensures.cases.0 (sym c.in-Some-unsupported_text.ensures) c.tokens.invariant

pub tokens-preserved : goal.tokens-preserved
tokens-preserved c =
    sought_later c.tokens.rest.now c.in-Some.after.now c.in-Some.first.now c.args.tokens.now c.in-Some.ensures.cases.0
    (sym c.in_default-unsupported_text.ensures) c.tokens.invariant

pub returns : goal.returns
returns c = sought_end c.tokens.rest.now c.args.tokens.now c.in_default.ensures.cases c.tokens.invariant
