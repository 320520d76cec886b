use Rattle.std.proofs.Common.{[], sym, ap, ◌∙◌}
use Rattle.std.specs.Prelude.{option_map}
use Rattle.std.proofs.lemmas.Result.{IfOk-weaker}
use Rattle.jv_core.specs.View.{expr_of}
use Rattle.use_flow.specs.View.{log_of}
use Rattle.use_flow.specs.inner.Followed.{seen}
use Rattle.use_flow.specs.inner.Listed.{call_of}
use Rattle.use_flow.specs.inner.Switching.{branched}
use Rattle.use_flow.proofs.Choosing.{call_nows, call_log, other_nows, other_log}
use Rattle.use_flow.proofs.scene.Scene.branches.Goals as goal

pub returns-in-Some-clause-nows : goal.returns-in-Some-clause-nows
returns-in-Some-clause-nows c =
    IfOk-weaker c.call_branches.result _ _ (λ b e.
    call_nows (seen c.args.self.now) (expr_of c.args.value.now) c.args.sets (log_of c.args.log.now) (log_of c.args.log.now) (branched b)
    (call_of c.in-Some.call) (ap (option_map call_of) (sym c.in-Some.is) ∙ c.call_in.ensures) e) c.call_branches.ensures.nows

pub returns-in-Some-clause-log : goal.returns-in-Some-clause-log
returns-in-Some-clause-log c =
    IfOk-weaker c.call_branches.result _ _ (λ b e.
    call_log (seen c.args.self.now) (expr_of c.args.value.now) c.args.sets (log_of c.args.log.now) (log_of c.call_branches.new.log) []
    (call_of c.in-Some.call) (ap (option_map call_of) (sym c.in-Some.is) ∙ c.call_in.ensures) e) c.call_branches.ensures.log

pub returns-in-None-clause-nows : goal.returns-in-None-clause-nows
returns-in-None-clause-nows c =
    IfOk-weaker c.plain_branches.result _ _ (λ b e.
    other_nows (seen c.args.self.now) (expr_of c.args.value.now) c.args.sets (log_of c.args.log.now) (log_of c.args.log.now) (branched b)
    (ap (option_map call_of) (sym c.in-None.is) ∙ c.call_in.ensures) e) c.plain_branches.ensures.nows

pub returns-in-None-clause-log : goal.returns-in-None-clause-log
returns-in-None-clause-log c =
    IfOk-weaker c.plain_branches.result _ _ (λ b e.
    other_log (seen c.args.self.now) (expr_of c.args.value.now) c.args.sets (log_of c.args.log.now) (log_of c.plain_branches.new.log) []
    (ap (option_map call_of) (sym c.in-None.is) ∙ c.call_in.ensures) e) c.plain_branches.ensures.log
