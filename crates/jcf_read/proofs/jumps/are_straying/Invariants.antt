use Rattle.std.proofs.Common.{◌≡◌, ◌-◌}
use Rattle.jcf_read.specs.Jumps.{are_straying}
use Rattle.jcf_read.proofs.jumps.are_straying.Given as goal

abbrev pub invariant-loop : goal.invariant-loop
invariant-loop l = are_straying l.marks l.length l.place l.step (l.count - l.counter) l.rest
    ≡ are_straying l.marks l.length l.place l.step l.count l.bytes
