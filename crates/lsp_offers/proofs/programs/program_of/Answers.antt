use Rattle.std.proofs.Common.{◌≡◌}
use Rattle.mg_sources.specs.View.{sourced_of}
use Rattle.mg_sources.specs.declared.sources.Sources.{Sources as KeptSources}
use Rattle.lsp_offers.proofs.Trying.{none_had}
use Rattle.lsp_offers.proofs.programs.program_of.Goals as goal

pub returns-in-Err-Refused : goal.returns-in-Err-Refused
returns-in-Err-Refused c = λ s are.
    none_had (λ (k : KeptSources). sourced_of k ≡ s) _ _ c.in-Err-Refused.field-0-is (c.in-Err-Refused.ensures.only s are)
