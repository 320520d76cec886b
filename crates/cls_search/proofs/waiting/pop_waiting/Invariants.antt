use Rattle.std.proofs.Common.{vec_len}
use Rattle.cls_search.specs.Ordered.{AreOrdered}
use Rattle.cls_search.proofs.waiting.pop_waiting.Given as goal

abbrev pub invariant-down : goal.invariant-down
invariant-down l = AreOrdered l.places l.order.items

abbrev pub decreases-down : goal.decreases-down
decreases-down l = vec_len l.order
