use Rattle.std.proofs.Common.{arith, rules, ◌<◌, ◌+ℤ◌, pos, length, get_or, ap, ◌∙◌}
use Rattle.std.proofs.lemmas.Grind.{common_steps}
use Rattle.std.proofs.lemmas.Int.{to_z-of_z}
use mir.Syntax.{w32}
use mir.Val.{SFits}
use Rattle.vm_model.specs.Links.{started}
use Rattle.vm_load.proofs.Maps.{mapped_more}
use Rattle.vm_load.proofs.code.targets.Goals as goal

pub loop-offset-preserved : goal.loop-offset-preserved
loop-offset-preserved c =
    let within : c.loop-offset.offset-index < length c.args.offsets.now = search rules in
    let f : SFits w32 (get_or c.args.offsets.now c.loop-offset.offset-index (pos 0)) = search rules in
    mapped_more (λ d. started c.args.starts.now (pos c.args.place +ℤ d)) c.args.offsets.now _ _ c.loop-offset.offset-index (pos 0) _ within
    c.loop-offset.invariant
    c.in_ok-push.ensures.ok
    (c.in_ok-one.ensures ∙ ap (λ z. started c.args.starts.now (pos c.args.place +ℤ z)) (to_z-of_z w32 _ f))

pub returns : goal.returns
returns c = grind (arith, common_steps)
