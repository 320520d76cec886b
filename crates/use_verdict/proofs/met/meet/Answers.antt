use Rattle.std.proofs.Common.{◌++◌, flat_map, map, ap, ◌∙◌}
use Rattle.std.proofs.lemmas.List.{map-append}
use Rattle.use_rules.specs.declared.key.Context.TheVariants.{Plain}
use Rattle.use_rules.specs.State.{Log}
use Rattle.use_rules.specs.Tables.{flow_of}
use Rattle.use_flow.specs.View.{tables_of, reached_of, sight_of}
use Rattle.use_verdict.proofs.Meeting.{met_more, met_all}
use Rattle.use_verdict.proofs.met.meet.Goals as goal

pub loop-context-init : goal.loop-context-init
loop-context-init c =
    let p = c.args.core.now in
    let r = reached_of c.args.tables.now in
    let t = tables_of c.args.tables.now in
    let same = c.requires.known ∙ c.requires.made.contexts in
    record {
      failed = ap (λ cs. c.args.failed.now.items ++ flat_map (λ x. (flow_of p r t x).failed) cs) same;
      sights = ap (λ cs. map sight_of c.args.sights.now.items ++ flat_map (λ x. (flow_of p r t x).sights) cs) same;
    }

pub flow-requires : goal.flow-requires
flow-requires c = c.requires.made

pub loop-context-preserved : goal.loop-context-preserved
loop-context-preserved c =
    let p = c.args.core.now in
    let r = reached_of c.args.tables.now in
    let t = tables_of c.args.tables.now in
    let cs = c.args.contexts.now in
    let i = c.loop-context.context-index in
    record {
      failed = met_more (λ x. (flow_of p r t x).failed) cs (Plain 0) i c.loop-context.failed.items c.add_failed.new.all.items _
          c.loop-context-test.true
          (c.in_ok-add_failed.ensures ∙ ap (λ (l : Log). c.loop-context.failed.items ++ l.failed) c.in_ok-met.ensures.flows)
          c.loop-context.invariant.failed;
      sights = met_more (λ x. (flow_of p r t x).sights) cs (Plain 0) i (map sight_of c.loop-context.sights.items)
          (map sight_of c.add_sights.new.all.items) _ c.loop-context-test.true
          (ap (map sight_of) c.in_ok-add_sights.ensures ∙ map-append sight_of c.loop-context.sights.items _
          ∙ ap (λ (l : Log). map sight_of c.loop-context.sights.items ++ l.sights) c.in_ok-met.ensures.flows)
          c.loop-context.invariant.sights;
    }

pub returns : goal.returns
returns c =
    let p = c.args.core.now in
    let r = reached_of c.args.tables.now in
    let t = tables_of c.args.tables.now in
    let cs = c.args.contexts.now in
    let i = c.loop-context.context-index in
    record {
      failed = met_all (λ x. (flow_of p r t x).failed) cs (Plain 0) i _ _ c.loop-context-test.false c.loop-context.invariant.failed;
      sights = met_all (λ x. (flow_of p r t x).sights) cs (Plain 0) i _ _ c.loop-context-test.false c.loop-context.invariant.sights;
    }
