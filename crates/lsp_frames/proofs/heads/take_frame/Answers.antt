use Rattle.std.proofs.Common.{◌≡◌, ℕ, List, ◌+◌, ◌-◌, ◌<◌, ◌≤◌, drop, length, option_to_list, subst, arith, length-drop}
use Rattle.std.proofs.lemmas.List.{take_rest}
use Rattle.lsp_frames.specs.declared.heads.Step.TheVariants.{Go}
use Rattle.lsp_frames.specs.inner.Walk.{IsReadFrom, Steps}
use Rattle.lsp_frames.proofs.Walks.{from_start, onward}
use Rattle.lsp_frames.proofs.heads.take_frame.Goals as goal

pub loop-taken-init : goal.loop-taken-init
loop-taken-init c = (omega arith, omega arith, λ taken r. r)

pub returns-in-Stop : goal.returns-in-Stop
returns-in-Stop c =
    from_start c.args.limit c.args.bytes.now c.in-Stop.taken (c.loop-taken.invariant.2 c.in-Stop.taken
    (subst (λ (zs : List ℕ). IsReadFrom c.args.limit c.loop-taken.at (option_to_list c.loop-taken.told) zs c.in-Stop.taken)
    (take_rest c.args.bytes.now c.loop-taken.at) c.in-Stop.ensures))

pub loop-taken-smaller : goal.loop-taken-smaller
loop-taken-smaller c =
    let steps = subst (λ (zs : List ℕ). Steps c.args.limit zs c.loop-taken.at c.loop-taken.told (Go c.in-Go.passed c.in-Go.more))
    (take_rest c.args.bytes.now c.loop-taken.at) c.in-Go.ensures in
    let some : 0 < c.in-Go.passed = steps.0 in
    let fits : c.in-Go.passed ≤ length (drop c.loop-taken.at c.args.bytes.now) = steps.1 in
    let long : length (drop c.loop-taken.at c.args.bytes.now) ≡ length c.args.bytes.now - c.loop-taken.at =
    length-drop c.loop-taken.at c.args.bytes.now in
    further (length c.args.bytes.now) c.loop-taken.at c.in-Go.passed some (omega (arith, long)) where
      further : (all at passed : ℕ) → 0 < passed → passed ≤ all - at → all - (at + passed) < all - at
      further all at passed some fits = omega arith

pub loop-taken-preserved : goal.loop-taken-preserved
loop-taken-preserved c =
    let steps = subst (λ (zs : List ℕ). Steps c.args.limit zs c.loop-taken.at c.loop-taken.told (Go c.in-Go.passed c.in-Go.more))
    (take_rest c.args.bytes.now c.loop-taken.at) c.in-Go.ensures in
    let some : 0 < c.in-Go.passed = steps.0 in
    let fits : c.in-Go.passed ≤ length (drop c.loop-taken.at c.args.bytes.now) = steps.1 in
    let long : length (drop c.loop-taken.at c.args.bytes.now) ≡ length c.args.bytes.now - c.loop-taken.at =
    length-drop c.loop-taken.at c.args.bytes.now in (
      omega (arith, long),
      steps.2,
      λ taken r. c.loop-taken.invariant.2 taken (steps.3 taken
          (onward c.args.limit c.loop-taken.at c.in-Go.passed (option_to_list c.in-Go.more) c.args.bytes.now taken r)),
    )
