use Rattle.std.proofs.Common.{◌≡◌, ◌∙◌, ◌++◌, ap, map, arith}
use Rattle.std.proofs.lemmas.Result.{IfOk-weaker}
use Rattle.ts_refine.specs.Verdicts.{call_of}
use Rattle.ts_refine.specs.inner.Keeping.{found_by, calls_at}
use Rattle.ts_refine.proofs.Whole.{steps_back, back_ends}
use Rattle.ts_refine.proofs.search.Search.path.Goals as goal

pub loop-at-smaller : goal.loop-at-smaller
loop-at-smaller c = c.step_at-step.ensures.earlier

pub loop-at-preserved : goal.loop-at-preserved
loop-at-preserved c =
    let earlier = c.step_at-step.ensures.earlier in
    record {
      within = omega (arith, earlier, c.loop-at.invariant.within);
      rest =
          steps_back c.args.self.now c.loop-at.at c.step_at-step.result.now c.loop-at.calls.items c.push.new.self.items c.in_ok-call.call _
          c.loop-at.invariant.within
          c.loop-at-test.true earlier c.step_at-step.ensures.met c.in_ok-call.ensures c.in_ok-push.ensures.items c.loop-at.invariant.rest;
    }

pub returns : goal.returns
returns c =
    IfOk-weaker c.from_vec.result (λ l. l.items ≡ c.reverse.new.self.items) (λ l. map call_of l.items ≡ calls_at (found_by c.args.self.now)
    c.args.end) (λ l is.
    back_ends c.args.self.now c.loop-at.at l.items _ (omega (arith, c.loop-at-test.false))
    (ap (λ cs. calls_at (found_by c.args.self.now) c.loop-at.at ++ map call_of cs) (is ∙ c.reverse.ensures.items) ∙
    c.loop-at.invariant.rest)) c.from_vec.ensures.ok
