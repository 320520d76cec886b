use Rattle.cls_rows.specs.Frames.{kinds_at}
use Rattle.cls_search.specs.Setting.{Setting}
use Rattle.cls_search.specs.Led.{LedToAll}
use Rattle.cls_search.proofs.LedLemmas.{LeadsSoFar}
use Rattle.cls_search.proofs.leading.Found.lead_all.Given as goal

abbrev pub invariant-loop-place : goal.invariant-loop-place
invariant-loop-place l = (s : Setting) → LedToAll s l.fn.self l.left l.places →
    LeadsSoFar s l.fn.self l.self (kinds_at s.names s.rest l.fn.self.stacks l.left) l.places l.place-index
