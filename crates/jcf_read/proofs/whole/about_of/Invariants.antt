use Rattle.std.proofs.Common.{◌≡◌, ◌-◌, map}
use Rattle.jcf_tree.specs.Tree.{annotation_of}
use Rattle.jcf_read.specs.Answer.{folded}
use Rattle.jcf_read.specs.Front.{front_of}
use Rattle.jcf_read.specs.Pool.{pool_of}
use Rattle.jcf_read.specs.Class.{about_turn}
use Rattle.jcf_read.proofs.whole.about_of.Given as goal

abbrev pub invariant-loop : goal.invariant-loop
invariant-loop l = folded (about_turn (pool_of l.pool) l.constants (front_of l.front)) (l.count - l.counter)
    (l.source_file, map annotation_of l.annotations.items, l.place)
    ≡ folded (about_turn (pool_of l.pool) l.constants (front_of l.front)) l.count (0, map annotation_of l.fn.annotations.items, l.at)
