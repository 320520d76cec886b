use Rattle.std.proofs.Common.{◌≡◌, ◌-◌, ◌++◌}
use Rattle.jcf_code.specs.Instructions.{table_cases}
use Rattle.jcf_code.proofs.instructions.table_cases.Given as goal

abbrev pub invariant-loop : goal.invariant-loop
invariant-loop l = l.cases.items ++ table_cases l.place l.number (l.count - l.counter) l.rest ≡ table_cases l.place l.low l.count l.bytes
