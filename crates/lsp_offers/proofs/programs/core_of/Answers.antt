use Rattle.jv_core.specs.Tree.{Program}
use Rattle.std.proofs.Common.{◌≡◌}
use Rattle.lsp_offers.proofs.Trying.{none_had}
use Rattle.lsp_offers.proofs.programs.core_of.Goals as goal

pub returns-in-Err-Refused : goal.returns-in-Err-Refused
returns-in-Err-Refused c = λ core have.
    none_had (λ (x : Program). x ≡ core) _ _ c.in-Err-Refused.field-0-is (c.in-Err-Refused.ensures.only core have)
