use Rattle.std.proofs.Common.{◌≡◌, ◌++◌, ◌∙◌, ap, arith, string_bytes}
use Rattle.std.specs.List.{flat_map}
use Rattle.mg_load.specs.Workload.{branch, numbers, protocol_head, protocol_end, protocol}
use Rattle.mg_load.proofs.Steps.{numbers_more, framed, made_of}
use Rattle.mg_load.proofs.protocols.protocol.Goals as goal

pub loop-number-preserved : goal.loop-number-preserved
loop-number-preserved c =
    numbers_more (branch c.args.there.now c.args.back.now) c.loop-number.number _ _ _ c.loop-number.invariant c.in_ok-push_branch.ensures

pub returns : goal.returns
returns c =
    let me = c.args.me.now in
    let there = c.args.there.now in
    let back = c.args.back.now in
    let all : c.loop-number.number ≡ c.args.n = omega (arith, c.loop-number-test.false, c.loop-number.auto.number-end) in
    let branches = c.loop-number.invariant ∙ ap (λ k. string_bytes c.write.new.self ++ flat_map (branch there back) (numbers k)) all in
    made_of _ (protocol me there back c.args.n) c.of.result
    (c.as_bytes.ensures.value
    ∙ framed _ _ _ _ (protocol_head me) (flat_map (branch there back) (numbers c.args.n)) (protocol_end there)
    c.new-out.ensures.bytes c.in_ok-write.ensures.bytes branches c.in_ok-write-2.ensures.bytes) c.of.ensures
