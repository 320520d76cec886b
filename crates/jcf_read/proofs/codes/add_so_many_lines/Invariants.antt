use Rattle.std.proofs.Common.{◌≡◌, ◌-◌}
use Rattle.jcf_read.specs.Answer.{folded}
use Rattle.jcf_read.specs.Front.{front_of}
use Rattle.jcf_read.specs.Codes.{line_turn}
use Rattle.jcf_read.proofs.codes.add_so_many_lines.Given as goal

abbrev pub invariant-loop : goal.invariant-loop
invariant-loop l = folded (line_turn (front_of l.front)) (l.count - l.counter) (l.lines.items, l.place)
    ≡ folded (line_turn (front_of l.front)) l.count (l.fn.lines.items, l.at)
