use Rattle.cls_search.specs.Setting.{Setting}
use Rattle.cls_search.specs.Walking.{HasBegun}
use Rattle.cls_search.proofs.Searched.{measure}
use Rattle.cls_search.proofs.method.settles.Given as goal

abbrev pub invariant-waiting : goal.invariant-waiting
invariant-waiting l = (s : Setting) → HasBegun s l.fn.found l.body → HasBegun s l.found l.body

abbrev pub decreases-waiting : goal.decreases-waiting
decreases-waiting l = measure l.fn.found l.found l.body
