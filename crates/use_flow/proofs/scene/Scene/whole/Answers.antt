use Rattle.std.proofs.Common.{map, ap, ◌∙◌, reverse, None}
use Rattle.jv_core.specs.View.{stmt_of, stmts_of, method_of}
use Rattle.use_flow.specs.View.{log_of}
use Rattle.use_flow.specs.inner.Ending.{left}
use Rattle.use_flow.specs.inner.Followed.{seen}
use Rattle.use_flow.proofs.Flowing.{whole_is}
use Rattle.use_flow.proofs.scene.Scene.whole.Goals as goal

pub returns : goal.returns
returns c =
    whole_is (seen c.args.self.now) (stmts_of (map stmt_of c.as_slice-body.result.now)) c.in_ok-scope.scope.items c.in_ok-sets.sets
    c.in_ok-value.value c.new.result c.in_ok-now.now c.steps.new.course (log_of c.quiet.result) (log_of c.leave_method.new.log)
    (ap (λ ss. stmts_of (map stmt_of ss)) c.as_slice-body.ensures.items) c.in_ok-scope.ensures c.in_ok-sets.ensures c.in_ok-value.ensures
    c.quiet.ensures c.in_ok-now.ensures
    (c.in_ok-leave_method.ensures ∙ ap (λ ks. left (seen c.args.self.now) (method_of c.args.self.now.method.now).end None
    c.in_ok-value.value (reverse ks) c.in_ok-now.now (log_of c.steps.new.course.log)) c.as_slice.ensures.value)
