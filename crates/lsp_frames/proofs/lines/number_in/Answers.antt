use Rattle.std.proofs.Common.{◌+◌, ◌-◌, ◌*◌, get_or, refl, sym, ◌∙◌}
use Rattle.lsp_frames.proofs.Digits.{too_much}
use Rattle.lsp_frames.proofs.lines.number_in.Goals as goal

pub returns-then-number-most : goal.returns-then-number-most
returns-then-number-most c numeral =
    too_much c.args.limit c.loop-digit.number c.loop-digit.digit-index
    (c.loop-digit.number * 10 + (get_or c.args.digits.now c.loop-digit.digit-index 0 - 48)) c.args.digits.now c.loop-digit-test.true
    c.loop-digit.invariant (sym c.is_ascii_digit.ensures.value ∙ c.if-not-is_ascii_digit.false) refl c.if-number-most.true
