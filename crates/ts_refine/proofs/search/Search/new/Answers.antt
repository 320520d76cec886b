use Rattle.ts_refine.specs.inner.Marking.{is_marked}
use Rattle.ts_refine.proofs.Pairing.{begun}
use Rattle.ts_refine.proofs.search.Search.new.Goals as goal

pub invariant_of-result : goal.invariant_of-result
invariant_of-result c =
    begun c.len-a.result c.len-b.result (is_marked c.in_ok-marks.marks) (is_marked c.mark.new.self) _ c.new-2.result.items c.number.result
    c.len-a.ensures.bound c.len-b.ensures.bound c.in_ok-marks.ensures c.number.ensures.value c.in_ok-mark.ensures.ok c.new-2.ensures
