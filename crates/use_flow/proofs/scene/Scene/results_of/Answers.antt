use Rattle.std.proofs.Common.{◌≡◌, None, get_or, arith, sym, rules}
use Rattle.std.proofs.lemmas.Grind.{get_or_default_zero}
use Rattle.jv_core.specs.View.{method_of}
use Rattle.use_rules.specs.Keys.{class_in}
use Rattle.use_flow.specs.inner.Followed.{seen}
use Rattle.use_flow.proofs.Taken.{result_next, results_last, results_none}
use Rattle.use_flow.proofs.scene.Scene.results_of.Goals as goal

pub loop-state-preserved : goal.loop-state-preserved
loop-state-preserved c =
    result_next (seen c.args.self.now) c.args.method_number (method_of c.args.method.now) c.args.states.now c.loop-state.state-index
    (get_or c.args.states.now c.loop-state.state-index 0) c.in_ok-context.context c.loop-state.all c.take_in.new.set c.in_ok-set.set _
    (omega arith)
    (sym (get_or_default_zero c.args.states.now c.loop-state.state-index _ (omega arith))) c.in_ok-context.ensures c.in_ok-set.ensures
    c.in_ok-take_in.ensures
    c.loop-state.invariant

pub returns : goal.returns
returns c =
    results_last (seen c.args.self.now) c.args.method_number (method_of c.args.method.now) c.args.states.now c.loop-state.state-index
    c.loop-state.all _ (omega arith)
    c.loop-state.invariant

pub returns-then-is_none : goal.returns-then-is_none
returns-then-is_none c =
    let none : class_in (method_of c.args.method.now).result ≡ None = search rules in
    results_none (seen c.args.self.now) c.args.method_number (method_of c.args.method.now) c.args.states.now c.in_ok-all.all none
    c.in_ok-all.ensures
