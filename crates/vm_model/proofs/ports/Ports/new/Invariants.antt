use Rattle.std.proofs.Common.{◌≡◌, [], replicate}
use Rattle.vm_model.proofs.ports.Ports.new.Given as goal

abbrev pub invariant-loop : goal.invariant-loop
invariant-loop l = l.sent.items ≡ replicate l.counter (replicate l.count [])
