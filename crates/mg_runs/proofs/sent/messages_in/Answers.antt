use Rattle.std.proofs.Common.{◌≡◌, ◌+◌, ◌∙◌, true, false, ap, arith}
use Rattle.std.proofs.lemmas.List.{take_all}
use Rattle.mg_runs.specs.Runs.{messages_in}
use Rattle.mg_runs.proofs.Sending.{counted_kind}
use Rattle.mg_runs.proofs.sent.messages_in.Goals as goal
use Rattle.mg_runs.proofs.sent.messages_in.Goals.{then-is_send, else-is_send}

pub loop-place-preserved : goal.loop-place-preserved
loop-place-preserved c =
    let events = c.args.events.now.items in
    let place = c.loop-place.place in
    let count = c.loop-place.count in
    let next = c.if-is_send.count in
    let kind = c.kind_at.result in
    elim c.if-is_send.branch [
      | then-is_send w ↦
          let more : next ≡ count + 1 = omega (arith, w.count-is) in
          record {
            counted = counted_kind events place kind c.kind_at.ensures count next true w.if-is_send.ensures more c.loop-place.invariant.counted;
            within = omega (arith, more, c.loop-place.invariant.within);
          }
      | else-is_send w ↦
          let same : next ≡ count + 0 = omega (arith, w.count-is) in
          record {
            counted = counted_kind events place kind c.kind_at.ensures count next false w.if-is_send.ensures same c.loop-place.invariant.counted;
            within = omega (arith, same, c.loop-place.invariant.within);
          }
    ]

pub returns : goal.returns
returns c =
    c.loop-place.invariant.counted
    ∙ ap messages_in
    (take_all c.loop-place.place c.args.events.now.items (omega (arith, c.loop-place-test.false, c.len-place-end.ensures.value)))
