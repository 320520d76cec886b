use Rattle.std.proofs.Common.{◌≡◌, drop, None}
use Rattle.std.specs.Option.{option_map}
use Rattle.scr_judge.specs.inner.OnSpot.{one_peer}
use Rattle.scr_tree.specs.View.{bodies}
use Rattle.scr_judge.proofs.starts.one_peer.Given as goal

abbrev pub invariant-loop-branch : goal.invariant-loop-branch
invariant-loop-branch l = one_peer None (bodies l.branches) ≡ one_peer (option_map (λ p. p.now) l.known)
    (bodies (drop l.branch-index l.branches))
