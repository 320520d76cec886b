use Rattle.std.proofs.Common.{◌<◌, ◌≤◌, length, arith, sym, ◌∙◌}
use Rattle.lsp_json.specs.Reading.{has_text}
use Rattle.lsp_json.proofs.Lists.{no_value, text_here, text_later}
use Rattle.lsp_json.proofs.reading.has_text.Goals as goal

pub loop-value-preserved : goal.loop-value-preserved
loop-value-preserved c =
    let less : c.loop-value.value-index < length c.args.values.now = omega arith in
    sym (text_later c.args.text.now c.args.values.now c.loop-value.value-index c.value-item.result less c.value-item.is
    (sym c.is_text.ensures ∙ c.if-is_text.false)) ∙ c.loop-value.invariant

pub returns-then-is_text : goal.returns-then-is_text
returns-then-is_text c =
    let less : c.loop-value.value-index < length c.args.values.now = omega arith in
    sym (text_here c.args.text.now c.args.values.now c.loop-value.value-index c.value-item.result less c.value-item.is
    (sym c.is_text.ensures ∙ c.if-is_text.true)) ∙ c.loop-value.invariant

pub returns : goal.returns
returns c =
    let over : length c.args.values.now ≤ c.loop-value.value-index = omega arith in
    sym (no_value (has_text c.args.text.now) c.args.values.now c.loop-value.value-index over) ∙ c.loop-value.invariant
