-- Two first refusals of files that aren't accepted are one, but for the place of Syntax.
use Rattle.std.proofs.Common.{List}
use Rattle.use_verdict.specs.Verdict.{FailsFirst}
use Rattle.use_verdict.proofs.First.{one_demand}
use Rattle.mg_refusal.specs.Refusals.{Refusal, AreAlike}
use Rattle.mg_refusal.proofs.Orders.{finds_alike, then_alike}
use Rattle.mg_sources.specs.Files.{Source}
use Rattle.mg_accepted.proofs.OneCore.{no_refusal, one_core}
use Rattle.mg_accepted.proofs.TypesAlike as program
use Rattle.mg_accepted.specs.Demands.{demand_refusal}
use Rattle.mg_accepted.specs.Accepted.{FirstRefusal}

pub same_refusal : (files : List Source) (r q : Refusal) → FirstRefusal files r → FirstRefusal files q → AreAlike r q
same_refusal files = then_alike (program.same_refusal files) (λ r core first have. no_refusal files have.program r have.are first)
    (one_core files) (λ core have. finds_alike (FailsFirst core) (demand_refusal core) (one_demand core))
