use Rattle.std.proofs.Common.{ap₂, ◌∙◌}
use Rattle.std.proofs.lemmas.Result.{IfOk-weaker}
use Rattle.lsp_says.specs.Said.{result_of}
use Rattle.lsp_says.proofs.saying.answered.Goals as goal

pub returns : goal.returns
returns c = IfOk-weaker c.with_result.result _ _ (λ v is. is ∙ ap₂ result_of c.in_ok-own.ensures c.in_ok-made.ensures) c.with_result.ensures
