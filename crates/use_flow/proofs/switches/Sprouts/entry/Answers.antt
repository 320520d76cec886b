use Rattle.std.proofs.Common.{None}
use Rattle.std.proofs.lemmas.Result.{IfOk-weaker}
use Rattle.use_flow.specs.inner.Switching.{with_any, rest_of, nows_of}
use Rattle.use_flow.proofs.Choosing.{entry_last, entry_at}
use Rattle.use_flow.proofs.switches.Sprouts.entry.Goals as goal

pub returns : goal.returns
returns c = λ s.
    IfOk-weaker c.with_any.result _ _ (λ n e.
    entry_last (rest_of c.args.self.now) (nows_of c.args.self.now) c.args.labels.now c.loop-label.label-index
    (with_any c.args.self.now.branches.variable c.args.self.now.branches.known c.loop-label.all) c.loop-label.invariant n
    c.loop-label-test.false e s) c.with_any.ensures

pub loop-label-preserved : goal.loop-label-preserved
loop-label-preserved c =
    entry_at (rest_of c.args.self.now) (nows_of c.args.self.now) c.args.labels.now c.loop-label.label-index
    (with_any c.args.self.now.branches.variable c.args.self.now.branches.known c.loop-label.all) c.loop-label.invariant None
    (with_any c.args.self.now.branches.variable c.args.self.now.branches.known c.in_ok-all.all) c.loop-label-test.true c.in_ok-all.ensures
