use Rattle.std.proofs.Common.{◌≡◌, ◌∙◌, arith}
use Rattle.std.proofs.lemmas.Int.{wrapping_add_is, to_z-of_z}
use mir.Syntax.{w8, w32}
use Rattle.vm_actions.proofs.arithmetic.added.Goals as goal

pub returns : goal.returns
returns c =
    let e : c.from.result ≡ c.args.by = c.from.ensures ∙ to_z-of_z w8 c.args.by c.ranges.by in
    rw e (wrapping_add_is w32 c.args.x c.args.by c.ranges.x (record { sfits = omega (arith, c.ranges.by.sfits) }))
