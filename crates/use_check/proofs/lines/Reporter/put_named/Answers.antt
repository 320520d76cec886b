use Rattle.std.proofs.Common.{◌++◌, ℕ, List, ap, ◌∙◌, string_bytes}
use Rattle.std.proofs.lemmas.Result.{on_ok_weaker}
use Rattle.jv_core.specs.Tree.{Slot}
use Rattle.jv_core.specs.View.{method_of}
use Rattle.use_check.specs.Report.{param_lines, helper_lines_of}
use Rattle.use_check.specs.inner.Reported.{seen}
use Rattle.use_check.proofs.Listed.{four, left_by}
use Rattle.use_check.proofs.lines.Reporter.put_named.Goals as goal

pub returns-in_err-put_params : goal.returns-in_err-put_params
returns-in_err-put_params c = left_by _ _ c.from_residual.result c.from_residual.ensures.1

pub returns-in_err-put_result : goal.returns-in_err-put_result
returns-in_err-put_result c = left_by _ _ c.from_residual-in_err-put_result.result c.from_residual-in_err-put_result.ensures.1

pub returns-in_err-put_if_helper : goal.returns-in_err-put_if_helper
returns-in_err-put_if_helper c = left_by _ _ c.from_residual-in_err-put_if_helper.result c.from_residual-in_err-put_if_helper.ensures.1

pub returns : goal.returns
returns c =
    on_ok_weaker c.put_loops.result (λ e. four (string_bytes c.args.out.now) (string_bytes c.put_params.new.out)
    (string_bytes c.put_result.new.out) (string_bytes c.put_if_helper.new.out) _ _ _ _ _
    (c.in_ok-put_params.ensures
    ∙ ap (λ (xs : List Slot). string_bytes c.args.out.now ++ param_lines (seen c.args.self.now) c.args.name.now c.args.context_number xs)
    c.params_of.ensures)
    c.in_ok-put_result.ensures
    (c.in_ok-put_if_helper.ensures
    ∙ ap (λ (n : ℕ). string_bytes c.put_result.new.out ++ helper_lines_of (seen c.args.self.now) c.args.name.now n
    (method_of c.args.method.now)) c.method_in.ensures)
    e) c.put_loops.ensures
