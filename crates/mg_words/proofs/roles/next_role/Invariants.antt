use Rattle.std.proofs.Common.{◌≡◌, ◌≤◌, length}
use Rattle.mg_words.specs.inner.Judging.{roles_in}
use Rattle.mg_words.proofs.roles.next_role.Given as goal

abbrev pub invariant-loop-word : goal.invariant-loop-word
invariant-loop-word l = (roles_in l.words ≡ roles_in l.left) × (length l.left ≤ length l.words)

abbrev pub decreases-loop-word : goal.decreases-loop-word
decreases-loop-word l = length l.left
