use Rattle.std.proofs.Common.{◌≡◌, ◌-◌, map}
use Rattle.jcf_read.specs.Answer.{folded}
use Rattle.jcf_read.specs.Front.{front_of}
use Rattle.jcf_read.specs.Pool.{pool_of}
use Rattle.jcf_tree.specs.Tree.{annotation_of}
use Rattle.jcf_read.specs.Annotations.{annotation_turn}
use Rattle.jcf_read.proofs.annotations.add_so_many.Given as goal

abbrev pub invariant-loop : goal.invariant-loop
invariant-loop l = folded (annotation_turn (pool_of l.pool) (front_of l.front)) (l.count - l.counter)
    (map annotation_of l.annotations.items, l.place)
    ≡ folded (annotation_turn (pool_of l.pool) (front_of l.front)) l.count (map annotation_of l.fn.annotations.items, l.at)
