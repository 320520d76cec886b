use Rattle.cls_search.specs.Setting.{Setting}
use Rattle.cls_search.specs.Walking.{WalksFrom}
use Rattle.cls_search.proofs.Striding.{OnTheWay}
use Rattle.cls_search.proofs.leading.Found.walk.Given as goal

abbrev pub invariant-steps : goal.invariant-steps
invariant-steps l = (s : Setting) → WalksFrom s l.fn.self l.body l.from → OnTheWay s l.fn.self l.self l.from l.place l.frame
