use Rattle.std.proofs.Common.{◌≡◌, ◌-◌}
use Rattle.jcf_read.specs.Answer.{folded}
use Rattle.jcf_read.specs.Front.{front_of}
use Rattle.jcf_read.specs.Pool.{pool_of}
use Rattle.std.specs.Prelude.{None, option_map}
use Rattle.jcf_tree.specs.Tree.{code_of}
use Rattle.jcf_read.specs.Members.{code_turn}
use Rattle.jcf_read.proofs.members.codes_of.Given as goal

abbrev pub invariant-loop : goal.invariant-loop
invariant-loop l = folded (code_turn (pool_of l.pool) l.constants l.is_method (front_of l.front)) (l.count - l.counter)
    (option_map code_of l.code, l.place)
    ≡ folded (code_turn (pool_of l.pool) l.constants l.is_method (front_of l.front)) l.count (None, l.at)
