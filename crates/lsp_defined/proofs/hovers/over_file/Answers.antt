use Rattle.std.proofs.Common.{refl}
use Rattle.std.proofs.lemmas.Result.{IfOk-weaker}
use Rattle.lsp_defined.specs.Hovers.{some, none}
use Rattle.lsp_defined.proofs.hovers.over_file.Goals as goal

pub returns-in-Ok : goal.returns-in-Ok
returns-in-Ok c = IfOk-weaker c.over_text.result _ _ (λ a h. some c.in-Ok.ensures.cases.1 h) c.over_text.ensures

pub returns-in-Err : goal.returns-in-Err
returns-in-Err c = none c.in-Err.ensures.cases.0 refl
