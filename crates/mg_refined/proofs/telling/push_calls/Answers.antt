use Rattle.std.proofs.Common.{arith}
use Rattle.std.specs.Prelude.{string_bytes}
use Rattle.mg_refined.proofs.Lines.{line_put, lines_end}
use Rattle.mg_refined.proofs.telling.push_calls.Goals as goal

pub loop-call-preserved : goal.loop-call-preserved
loop-call-preserved c =
    line_put c.args.calls.now c.loop-call.call-index c.call-item.result (string_bytes c.loop-call.text) (string_bytes c.push_call.new.text)
    _ c.loop-call-test.true c.call-item.is c.in_ok-push_call.ensures c.loop-call.invariant

pub returns : goal.returns
returns c = lines_end c.args.calls.now c.loop-call.call-index (string_bytes c.loop-call.text) _ (omega (arith, c.loop-call-test.false))
    c.loop-call.invariant
