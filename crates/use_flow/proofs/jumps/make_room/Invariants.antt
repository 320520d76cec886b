use Rattle.use_flow.specs.inner.Jumping.{HasRoom}
use Rattle.use_flow.proofs.jumps.make_room.Given as goal

abbrev pub invariant-loop-place : goal.invariant-loop-place
invariant-loop-place l = HasRoom l.nows.items l.initial.nows.items l._place l.at
