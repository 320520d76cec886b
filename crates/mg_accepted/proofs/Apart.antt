-- Files that are refused aren't accepted.
use Rattle.std.proofs.Common.{◌≡◌, List, Bool, Option, Some, None, slice_get, sym, ap, ◌∙◌, subst}
use Rattle.jv_core.specs.Tree as Core
use Rattle.use_rules.specs.declared.demand.Demand.{Demand}
use Rattle.use_rules.specs.Tables.{Solves}
use Rattle.use_rules.proofs.Laws.{least_solve}
use Rattle.use_flow.proofs.Reached.{reached_same}
use Rattle.use_verdict.specs.Verdict.{IsAccepted, FailsFirst}
use Rattle.mg_refusal.specs.Refusals.{Refusal}
use Rattle.mg_refusal.proofs.Orders.{then_never}
use Rattle.mg_sources.specs.Files.{Source}
use Rattle.mg_accepted.proofs.OneCore.{no_refusal, one_core}
use Rattle.mg_accepted.specs.Accepted.{AreAccepted, FirstRefusal}

none_first : {P : Type 0} (d : Demand) → ◌≡◌ {A = Option Demand} None (Some d) → P
none_first d h = absurd cc

-- where some tables solve a core, no demand fails under the least ones
no_failing : (core : Core.Program) (d : Demand) → FailsFirst core d → IsAccepted core → ⊥
no_failing core d f a =
    let same : a.reached ≡ f.reached = reached_same core a.reached f.reached a.are f.are in
    let solves : Solves core f.reached a.tables = subst (λ (r : List (List Bool)). Solves core r a.tables) same a.solves in
    none_first d (sym (sym f.first ∙ ap (λ (ds : List Demand). slice_get ds 0) (least_solve core f.reached f.tables a.tables f.least
    solves).none_fails))

pub not_refused : (files : List Source) (core : Core.Program) (r : Refusal) → AreAccepted files core → FirstRefusal files r → ⊥
not_refused files core r a = then_never (λ r first. no_refusal files a.have.program r a.have.are first)
    (λ other have r found. no_failing other found.0 found.1 (subst IsAccepted (one_core files core other a.have have) a.solved)) r
