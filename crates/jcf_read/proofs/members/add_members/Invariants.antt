use Rattle.std.proofs.Common.{◌≡◌, ◌-◌, map}
use Rattle.jcf_read.specs.Answer.{folded}
use Rattle.jcf_read.specs.Front.{front_of}
use Rattle.jcf_read.specs.Pool.{pool_of}
use Rattle.jcf_tree.specs.Tree.{member_of}
use Rattle.jcf_read.specs.Members.{member_turn}
use Rattle.jcf_read.proofs.members.add_members.Given as goal

abbrev pub invariant-loop : goal.invariant-loop
invariant-loop l = folded (member_turn (pool_of l.pool) l.constants l.are_methods (front_of l.front)) (l.count - l.counter)
    (map member_of l.members.items, l.place)
    ≡ folded (member_turn (pool_of l.pool) l.constants l.are_methods (front_of l.front)) l.count (map member_of l.fn.members.items, l.at)
