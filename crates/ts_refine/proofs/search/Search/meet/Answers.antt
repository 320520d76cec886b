use Rattle.std.proofs.Common.{refl}
use Rattle.ts_refine.proofs.Keeping.{meets_old, meets_new, then_ok, positive}
use Rattle.ts_refine.proofs.search.Search.meet.Goals as goal

pub returns-then-is_met : goal.returns-then-is_met
returns-then-is_met c =
    meets_old c.args.self.now c.args.step.parent _ c.args.from c.in-Some.from c.args.to c.is_met.result c.in-Some.is c.is_met.ensures
    c.if-is_met.true

pub returns : goal.returns
returns c =
    then_ok c.keep.result c.keep.ensures (λ is.
    meets_new c.args.self.now c.keep.new.self _ c.args.step.parent _ c.args.from c.in-Some.from c.args.to c.is_met.result
    (positive c.args.step.parent _ c.requires) is refl refl refl c.in-Some.is c.is_met.ensures c.if-is_met.false)
