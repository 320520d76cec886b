use Rattle.std.proofs.Common.{◌≡◌, ◌-◌, ◌++◌, ◌≤◌, length, map}
use Rattle.jcf_code.specs.Instructions.{instruction_of, instructions_from, instructions}
use Rattle.jcf_code.proofs.instructions.instructions_of.Given as goal

abbrev pub invariant-loop : goal.invariant-loop
invariant-loop l = record {
  so_far : map instruction_of l.instructions.items ++ instructions_from (length l.code - l.counter) l.code l.rest ≡ instructions l.code;
  within : length l.rest ≤ length l.code;
}
