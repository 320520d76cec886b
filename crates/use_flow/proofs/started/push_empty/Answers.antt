use Rattle.std.proofs.Common.{◌≡◌, ℕ, ◌-◌, ◌++◌, [], replicate, refl, ap, ◌∙◌, arith}
use Rattle.use_flow.proofs.Starting.{empty_next, empty_last}
use Rattle.use_flow.proofs.started.push_empty.Goals as goal

pub loop-place-init : goal.loop-place-init
loop-place-init c = refl

pub loop-place-preserved : goal.loop-place-preserved
loop-place-preserved c =
    empty_next c.loop-place._place c.args.count c.loop-place.sets c.push.new.self _ c.in_ok-set.set (omega arith) c.in_ok-set.ensures
    c.in_ok-push.ensures c.loop-place.invariant

pub returns : goal.returns
returns c =
    let whole : c.args.count - 0 ≡ c.args.count = omega arith in
    empty_last c.loop-place._place c.args.count c.loop-place.sets _ (omega arith) c.loop-place.invariant
    ∙ ap (λ (n : ℕ). c.args.sets.now ++ replicate n []) whole
