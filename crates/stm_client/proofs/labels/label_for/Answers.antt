use Rattle.std.proofs.Common.{◌+◌, ◌-◌, ◌∙◌, sym, ap, map, length, string_bytes, arith}
use Rattle.std.specs.Char.{to_ascii_lowercase}
use Rattle.stm_client.specs.Client.{is_taken, label_for}
use Rattle.stm_client.specs.View.{loops_of}
use Rattle.stm_client.proofs.Turns.{label-first, label-free, label-taken, label-last}
use Rattle.stm_client.proofs.labels.label_for.Goals as goal

pub loop-step-init : goal.loop-step-init
loop-step-init c =
    label-first c.args.loops.now c.args.name.now (string_bytes c.in_ok-label.label) (length c.args.loops.now + 1 - 0)
    (c.in_ok-label.ensures.ok ∙ ap (map to_ascii_lowercase) c.as_str.ensures) (omega arith)

pub loop-step-preserved : goal.loop-step-preserved
loop-step-preserved c =
    let loops = loops_of c.args.loops.now in
    label-taken (length c.args.loops.now) c.loop-step._step loops (string_bytes c.loop-step.label) (label_for loops c.args.name.now)
    c.loop-step.invariant (string_bytes c.push_str.new.self) c.loop-step-test.true
    (sym (c.is_taken.ensures ∙ ap (is_taken loops) c.as_str-in-loop-step.ensures.value) ∙ c.if-not-is_taken.false)
    c.in_ok-push_str.ensures.bytes

pub returns-then-not-is_taken : goal.returns-then-not-is_taken
returns-then-not-is_taken c =
    let loops = loops_of c.args.loops.now in
    c.from_string.ensures
    ∙ label-free (length c.args.loops.now) c.loop-step._step loops (string_bytes c.loop-step.label) (label_for loops c.args.name.now)
    c.loop-step.invariant c.loop-step-test.true
    (sym (c.is_taken.ensures ∙ ap (is_taken loops) c.as_str-in-loop-step.ensures.value) ∙ c.if-not-is_taken.true)

pub returns : goal.returns
returns c =
    let loops = loops_of c.args.loops.now in
    c.from_string-2.ensures
    ∙ label-last (length c.args.loops.now) c.loop-step._step loops (string_bytes c.loop-step.label) (label_for loops c.args.name.now)
    c.loop-step.invariant c.loop-step-test.false
