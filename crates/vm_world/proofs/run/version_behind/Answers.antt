use Rattle.std.proofs.Common.{inl, inr, refl, arith}
use Rattle.vm_world.proofs.run.version_behind.Goals as goal

pub returns-then-counted-gt1 : goal.returns-then-counted-gt1
returns-then-counted-gt1 c = inr (refl, inl (λ one. omega (arith, one, c.if-counted-gt1.true)))

pub returns-then-moved : goal.returns-then-moved
returns-then-moved c = inl refl

pub returns-else-moved : goal.returns-else-moved
returns-else-moved c = inr (refl, inr c.if-moved.false)
