use Rattle.lsp_sights.proofs.Answering.{none_had}
use Rattle.lsp_sights.proofs.answers.core_of.Goals as goal

pub returns-in-Err-Refused : goal.returns-in-Err-Refused
returns-in-Err-Refused c = λ core have. none_had core _ _ c.in-Err-Refused.field-0-is (c.in-Err-Refused.ensures.only core have)
