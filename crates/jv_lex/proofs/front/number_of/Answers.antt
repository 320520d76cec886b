use Rattle.std.proofs.Common.{sym, ◌∙◌, arith}
use Rattle.std.specs.Char.{is_ascii_digit}
use Rattle.mg_read.proofs.Spans.{span_is}
use Rattle.jv_lex.proofs.Told.{number_shown}
use Rattle.jv_lex.proofs.front.number_of.Goals as goal

pub value_of-requires-clause-passes : goal.value_of-requires-clause-passes
value_of-requires-clause-passes c = rw (c.split_at.ensures.front, c.digits_len-len.ensures.value)
    (span_is is_ascii_digit c.args.bytes.now).passes

pub returns-in-Some : goal.returns-in-Some
returns-in-Some c =
    number_shown c.args.bytes.now c.split_at.result.0.now c.split_at.result.1.now c.digits_len-len.result c.in-Some.value
    c.digits_len-len.ensures.value c.split_at.ensures.front c.split_at.ensures.back c.split_at.ensures.front_len
    (omega (arith, c.digits_len-len.ensures.value, c.requires))
    (sym c.is_tailed.ensures ∙ c.if-is_tailed.false) (sym c.has_leading_zero.ensures ∙ c.if-has_leading_zero.false)
    (sym c.in-Some.is ∙ c.value_of.ensures)
