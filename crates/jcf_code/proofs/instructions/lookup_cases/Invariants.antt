use Rattle.std.proofs.Common.{◌≡◌, ◌-◌, ◌++◌}
use Rattle.jcf_code.specs.Instructions.{lookup_cases}
use Rattle.jcf_code.proofs.instructions.lookup_cases.Given as goal

abbrev pub invariant-loop : goal.invariant-loop
invariant-loop l = l.cases.items ++ lookup_cases l.place (l.count - l.counter) l.rest ≡ lookup_cases l.place l.count l.bytes
