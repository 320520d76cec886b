use Rattle.std.proofs.Common.{sym, subst}
use Rattle.std.specs.Prelude.{option_map}
use Rattle.scr_read.specs.Outcome.{fault_answer}
use Rattle.scr_project.specs.Outcome as projects
use Rattle.mg_refusal.specs.Order.{IsStopBy}
use Rattle.mg_refusal.specs.declared.stop.Stop.{Stop}
use Rattle.mg_projected.specs.inner.Saying.{IsToldOfProjection}
use Rattle.mg_projected.proofs.Stops.{unmet_stop}
use Rattle.mg_projected.proofs.told.stop_of_unmet.Goals as goal

pub returns-in-Ok : goal.returns-in-Ok
returns-in-Ok c =
    subst (λ (z : Stop). IsStopBy IsToldOfProjection
    (option_map (projects.Unprojected c.args.place c.args.role.now) (fault_answer c.args.fault)) z) (sym c.named.ensures)
    (unmet_stop c.args.place c.args.role.now c.args.fault c.in-Refused.inner c.kind.result.now c.in-Ok.words c.in-Refused.ensures
    c.kind.ensures c.in-Ok.ensures)
