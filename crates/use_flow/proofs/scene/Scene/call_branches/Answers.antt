use Rattle.std.proofs.Common.{sym, ap, ◌∙◌}
use Rattle.std.specs.Prelude.{option_map, map}
use Rattle.std.proofs.lemmas.Result.{IfOk-weaker}
use Rattle.jv_core.specs.View.{method_of}
use Rattle.use_flow.specs.View.{log_of}
use Rattle.use_flow.specs.inner.Followed.{seen}
use Rattle.use_flow.specs.inner.Listed.{call_of}
use Rattle.use_flow.proofs.Choosing.{called_nows, called_log}
use Rattle.use_flow.proofs.scene.Scene.call_branches.Goals as goal

pub returns-clause-nows : goal.returns-clause-nows
returns-clause-nows c =
    IfOk-weaker c.led_branches.result _ _ (λ b e.
    called_nows (seen c.args.self.now) (call_of c.args.call) c.args.sets (log_of c.args.log.now) (log_of c.eval_all-2.new.log)
    b c.in_ok-args-2.args
    (method_of c.in-Some.called.now) (map (λ s. s.ty) c.params_of.result.now)
    (sym c.method_at.ensures.method ∙ ap (option_map (λ m. method_of m.now)) c.in-Some.is) c.params_of.ensures
    c.in_ok-args-2.ensures e) c.led_branches.ensures.nows

pub returns-clause-log : goal.returns-clause-log
returns-clause-log c =
    IfOk-weaker c.led_branches.result _ _ (λ b e.
    called_log (seen c.args.self.now) (call_of c.args.call) c.args.sets (log_of c.args.log.now) (log_of c.eval_all-2.new.log)
    b c.in_ok-args-2.args
    (method_of c.in-Some.called.now) (map (λ s. s.ty) c.params_of.result.now)
    (sym c.method_at.ensures.method ∙ ap (option_map (λ m. method_of m.now)) c.in-Some.is) c.params_of.ensures
    c.in_ok-args-2.ensures _ e) c.led_branches.ensures.log
