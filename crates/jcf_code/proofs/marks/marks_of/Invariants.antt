use Rattle.std.proofs.Common.{◌≡◌, ◌-◌, ◌++◌, length}
use Rattle.jcf_code.specs.Marks.{marks_from}
use Rattle.jcf_code.proofs.marks.marks_of.Given as goal

abbrev pub invariant-loop : goal.invariant-loop
invariant-loop l = l.marks.items ++ marks_from (length l.code - l.counter) l.code l.rest ≡ marks_from (length l.code) l.code l.code
