use Rattle.std.proofs.Common.{◌≡◌, map, arith, ◌∙◌}
use Rattle.std.proofs.lemmas.Grind.{common_steps}
use Rattle.jv_resolve.proofs.LocalSteps.{slots_seen}
use Rattle.jv_resolve.proofs.locals.slots.Goals as goal

-- By `grind` at once, which is shorter than a search.
pub loop-declared-preserved : goal.loop-declared-preserved
loop-declared-preserved c = grind (arith, common_steps)

pub returns : goal.returns
returns c =
    let all : c.loop-declared.slots.items ≡ map (λ d. d.it.slot) c.as_slice-stack.result.now = grind (arith, common_steps) in
    all ∙ slots_seen c.as_slice-stack.result.now c.args.locals.now c.as_slice-stack.ensures
