use Rattle.std.proofs.lemmas.Int.{to_z-of_z}
use mir.Syntax.{w64}
use Rattle.vm_actions.proofs.Ints.{target_below}
use Rattle.vm_actions.proofs.arithmetic.target_at.Goals as goal

pub returns-then-place-lt0 : goal.returns-then-place-lt0
returns-then-place-lt0 c = target_below c.args.default c.args.targets.now c.args.place
    (simp (to_z-of_z w64 c.args.place c.ranges.place) at c.if-place-lt0.true)
