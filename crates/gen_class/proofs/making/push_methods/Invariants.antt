use Rattle.std.proofs.Common.{◌≡◌, ◌++◌, map, drop}
use Rattle.gen_members.specs.Parts.{compiled_of}
use Rattle.gen_class.proofs.Programs.{found}
use Rattle.gen_class.proofs.making.push_methods.Given as goal

abbrev pub invariant-loop-number : goal.invariant-loop-number
invariant-loop-number l =
    map (compiled_of l.fn.core) l.makings.items ++ found l.fn.core (drop l.number-index l.fn.numbers)
    ≡ map (compiled_of l.fn.core) l.fn.makings.items ++ found l.fn.core l.fn.numbers
