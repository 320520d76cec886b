use Rattle.std.proofs.Common.{◌++◌, ℕ, List, ap, ◌∙◌, string_bytes}
use Rattle.std.proofs.lemmas.Result.{on_ok_weaker}
use Rattle.jv_core.specs.View.{method_of}
use Rattle.use_check.specs.Report.{named_lines}
use Rattle.use_check.specs.inner.Reported.{seen}
use Rattle.use_check.proofs.Listed.{left_by}
use Rattle.use_check.proofs.lines.Reporter.put_method.Goals as goal

pub returns-in_err-name : goal.returns-in_err-name
returns-in_err-name c = left_by _ _ c.from_residual.result c.from_residual.ensures.1

pub returns : goal.returns
returns c =
    on_ok_weaker c.put_named.result (λ e. e ∙ ap (λ (n : List ℕ). string_bytes c.args.out.now
    ++ named_lines (seen c.args.self.now) n c.args.context_number c.args.context (method_of c.args.method.now))
    (c.as_str.ensures.value ∙ c.in_ok-name.ensures)) c.put_named.ensures
