use Rattle.std.proofs.Common.{◌∙◌, ap, map}
use Rattle.ts_tree.specs.View.{method_of}
use Rattle.ts_refine.specs.inner.Keeping.{found_by, gone}
use Rattle.ts_refine.proofs.Keeping.{method_turn}
use Rattle.ts_refine.proofs.Offering.{labelled_by}
use Rattle.ts_refine.proofs.search.Search.meet_all.Goals as goal

pub meet_calls-requires-clause-labelled : goal.meet_calls-requires-clause-labelled
meet_calls-requires-clause-labelled c =
    labelled_by (λ m. method_of m.now) c.method_named-other.result (map method_of c.args.others.now) c.as_str.result.now c.requires.proper
    c.method_named-other.ensures

pub loop-method-preserved : goal.loop-method-preserved
loop-method-preserved c =
    let t = method_turn c.loop-method.self c.meet_calls.new.self c.args.parent (map method_of c.args.others.now) c.args.methods.now
    c.loop-method.method-index c.method-item.result c.as_str.result.now _
    c.loop-method.invariant.within c.loop-method-test.true c.method-item.is c.as_str.ensures c.method_named-other.ensures
    c.in_ok-meet_calls.ensures in
    record {
      within = t.0.within;
      rest = t.0.rest ∙ ap (gone (found_by c.loop-method.self) c.args.parent) t.1 ∙
          c.loop-method.invariant.rest;
    }
