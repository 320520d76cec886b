use Rattle.std.proofs.Common.{ℕ, List, subst, ◌∙◌}
use Rattle.std.specs.Prelude.{IfOk, MatchOption}
use Rattle.jv_core.specs.Tree.{Program}
use Rattle.mg_sources.specs.Files.{sources}
use Rattle.mg_accepted.specs.Program.{HaveCore}
use Rattle.lsp_offers.specs.inner.Typed.{IsOnlyCore}
use Rattle.lsp_offers.proofs.typing.Typing.core_with.Goals as goal

pub returns : goal.returns
returns c =
    subst (λ (cs : List (List ℕ)). IfOk c.core_of.result (λ o. MatchOption o
    ((core : Program) → ¬ HaveCore (sources c.args.self.now.names.now cs) core) (IsOnlyCore (sources c.args.self.now.names.now cs))))
    (c.as_slice.ensures.value ∙ c.in_ok-contents.ensures) c.core_of.ensures
