use Rattle.std.proofs.Common.{arith, ap}
use Rattle.std.specs.Map.{lookup}
use Rattle.indexmap.specs.IndexMap.{get}
use Rattle.mg_shown.proofs.Seeing.{key_eq, none_seen, sight_seen, all_seen}
use Rattle.mg_shown.proofs.seen.seen_of.Goals as goal

pub loop-sight-init : goal.loop-sight-init
loop-sight-init c = none_seen (get key_eq c.new-seen.result) (λ k. ap (λ es. lookup (key_eq k) es) c.new-seen.ensures.empty)

pub loop-sight-preserved : goal.loop-sight-preserved
loop-sight-preserved c =
    sight_seen c.args.sights.now c.loop-sight.sight-index c.sight-item.result (get key_eq c.loop-sight.seen)
    (get key_eq c.note.new.seen) (omega arith) c.sight-item.is c.in_ok-note.ensures c.loop-sight.invariant

pub returns : goal.returns
returns c = all_seen c.args.sights.now c.loop-sight.sight-index (get key_eq c.loop-sight.seen) (omega arith) c.loop-sight.invariant
