use Rattle.std.proofs.Common.{ap₂, ◌∙◌}
use Rattle.std.proofs.lemmas.Result.{IfOk-weaker}
use Rattle.lsp_says.specs.Said.{error_of}
use Rattle.lsp_says.proofs.saying.refused.Goals as goal

pub returns : goal.returns
returns c = IfOk-weaker c.with_error.result _ _ (λ v is. is ∙ ap₂ error_of c.in_ok-own.ensures c.in_ok-made.ensures) c.with_error.ensures
