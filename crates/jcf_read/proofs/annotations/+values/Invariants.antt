use Rattle.std.proofs.Common.{◌≡◌, ◌-◌, ◌+◌, ◌*◌}
use Rattle.jcf_read.specs.Answer.{folded}
use Rattle.jcf_read.specs.Front.{front_of}
use Rattle.jcf_read.specs.Pool.{pool_of}
use Rattle.jcf_read.specs.Annotations.{value_at, value_turn, behind_turn}
use Rattle.jcf_read.proofs.annotations.+values.Given as goal

abbrev pub decreases-value_at : goal.decreases-value_at
decreases-value_at l = 4 * l.depth

abbrev pub decreases-behind_values : goal.decreases-behind_values
decreases-behind_values l = 4 * l.depth + 1

abbrev pub decreases-element_at : goal.decreases-element_at
decreases-element_at l = 4 * l.depth + 1

abbrev pub decreases-behind_annotation : goal.decreases-behind_annotation
decreases-behind_annotation l = 4 * l.depth + 2

abbrev pub invariant-behind_values-values : goal.invariant-behind_values-values
invariant-behind_values-values l = folded (value_turn (value_at l.depth (pool_of l.pool)) (front_of l.front)) (l.count - l.counter) l.place
    ≡ folded (value_turn (value_at l.depth (pool_of l.pool)) (front_of l.front)) l.count l.from

abbrev pub invariant-behind_annotation-elements : goal.invariant-behind_annotation-elements
invariant-behind_annotation-elements l =
    folded (behind_turn (pool_of l.pool) (value_at l.depth (pool_of l.pool)) (front_of l.front)) (l.count - l.counter) l.place
    ≡ folded (behind_turn (pool_of l.pool) (value_at l.depth (pool_of l.pool)) (front_of l.front)) l.count l.from
