use Rattle.std.proofs.Common.{ℕ, List, subst, ◌∙◌}
use Rattle.std.specs.Prelude.{IfOk, MatchOption}
use Rattle.mg_sources.specs.Files.{sources}
use Rattle.mg_sources.specs.Sources.{Sourced, AreProgram}
use Rattle.mg_sources.specs.View.{sourced_of}
use Rattle.lsp_offers.proofs.programs.program_without.Goals as goal

pub returns : goal.returns
returns c =
    subst (λ (cs : List (List ℕ)). IfOk c.program_of.result (λ o. MatchOption o
    ((s : Sourced) → ¬ AreProgram (sources c.args.names.now cs) s) (λ s. AreProgram (sources c.args.names.now cs) (sourced_of s))))
    (c.as_slice.ensures.value ∙ c.in_ok-others.ensures) c.program_of.ensures
