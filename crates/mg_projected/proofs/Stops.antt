-- The refusal by a fault of projecting.
use Rattle.std.proofs.Common.{◌≡◌, ◌++◌, codes, Option, Some, None, refl, sym, ap, ◌∙◌, subst}
use Rattle.std.specs.Prelude.{option_map}
use Rattle.mg_text.specs.Call.{Name}
use Rattle.mg_text.specs.declared.place.Place.{Place}
use Rattle.scr_read.specs.Outcome as scr
use Rattle.scr_read.specs.declared.fault.ScrFault.{ScrFault}
use Rattle.scr_read.specs.declared.fault.ScrFault.TheVariants as scr_faults
use Rattle.scr_global_read.specs.Outcome as reads
use Rattle.scr_global_read.specs.declared.fault.GlobalFault.{GlobalFault}
use Rattle.scr_project.specs.Outcome as projects
use Rattle.scr_project.specs.declared.fault.ProjectFault.{ProjectFault}
use Rattle.scr_project.specs.declared.fault.ProjectFault.TheVariants as project_faults
use Rattle.mg_refusal.specs.Refusals.{Refusal, refusal_at}
use Rattle.mg_refusal.specs.Order.{IsStopOf, IsStopBy}
use Rattle.mg_refusal.specs.declared.stop.Stop.{Stop}
use Rattle.mg_refusal.specs.declared.stop.Stop.TheVariants as stops
use Rattle.mg_sources.specs.Reading.{IsSaidOfProtocol}
use Rattle.mg_projected.specs.declared.fault.ProjectedFault.{ProjectedFault}
use Rattle.mg_projected.specs.declared.fault.ProjectedFault.TheVariants as faults
use Rattle.mg_projected.specs.Projected.{Unread, Unprojected, fault_answer}
use Rattle.mg_projected.specs.Told.{IsSaidOfGlobal}
use Rattle.mg_projected.specs.inner.Saying.{IsToldOfProjection, IsTold}

by_global : (told : Option reads.Answer) (stop : Stop) → IsStopOf IsSaidOfGlobal told stop → IsStopBy IsTold (option_map Unread told) stop
by_global (Some a) (stops.Refused r) h = (Unread a, refl, h)
by_global (Some a) stops.Memory h = tt
by_global None (stops.Refused r) h = absurd h
by_global None stops.Memory h = tt

by_projection : (told : Option projects.Answer) (stop : Stop) → IsStopBy IsToldOfProjection told stop →
    IsStopBy IsTold (option_map Unprojected told) stop
by_projection told (stops.Refused r) (f, e, h) = (Unprojected f, ap (option_map Unprojected) e, h)
by_projection told stops.Memory h = tt

pub unread_stop : (fault : ProjectedFault) (inner : GlobalFault) (stop : Stop) → fault ≡ faults.Unread inner →
    IsStopOf IsSaidOfGlobal (reads.fault_answer inner) stop → IsStopBy IsTold (fault_answer fault) stop
unread_stop fault inner stop is h =
    subst (λ (z : ProjectedFault). IsStopBy IsTold (fault_answer z) stop) (sym is) (by_global (reads.fault_answer inner) stop h)

pub unprojected_stop : (fault : ProjectedFault) (inner : ProjectFault) (stop : Stop) → fault ≡ faults.Unprojected inner →
    IsStopBy IsToldOfProjection (projects.fault_answer inner) stop → IsStopBy IsTold (fault_answer fault) stop
unprojected_stop fault inner stop is h =
    subst (λ (z : ProjectedFault). IsStopBy IsTold (fault_answer z) stop) (sym is) (by_projection (projects.fault_answer inner) stop h)

-- the choice isn't merged
pub unmerged_stop : (fault : ProjectFault) (place : Place) (role : Name) (stop : Stop) → fault ≡ project_faults.NotMergeable place role →
    stop ≡ stops.Refused (refusal_at (codes "NotMergeable") place role) → IsStopBy IsToldOfProjection (projects.fault_answer fault) stop
unmerged_stop fault place role stop is e =
    subst (λ (z : ProjectFault). IsStopBy IsToldOfProjection (projects.fault_answer z) stop) (sym is)
    (subst (λ (z : Stop). IsStopBy IsToldOfProjection (Some (projects.NotMergeable place role)) z) (sym e)
    (projects.NotMergeable place role, refl, refl))

-- what is said of a place of Syntax is dropped
less_said : (Is : Place → Type 0) (a : scr.Answer) (r : Refusal) → IsSaidOfProtocol Is a r → IsSaidOfProtocol (λ at. Unit {0}) a r
less_said Is (scr.Protocol local) r h = h
less_said Is (scr.TooLarge at) r h = h
less_said Is (scr.BadByte at) r h = h
less_said Is (scr.Unsupported at word) r h = h
less_said Is scr.Syntax r (at, is, says) = (at, tt, says)
less_said Is (scr.Refused condition at name) r h = h

-- behind the role stands the kind of its fault
pub unmet_stop : (place : Place) (role : Name) (fault : ScrFault) (inner : Refusal) (word words : Name) →
    IsStopOf (IsSaidOfProtocol (λ at. fault ≡ scr_faults.Syntax at)) (scr.fault_answer fault) (stops.Refused inner) → word ≡ inner.kind →
    words ≡ role ++ codes " " ++ word →
    IsStopBy IsToldOfProjection (option_map (projects.Unprojected place role) (scr.fault_answer fault))
    (stops.Refused (refusal_at (codes "Unprojected") place words))
unmet_stop place role fault inner word words h k w = go (scr.fault_answer fault) h where
  go : (t : Option scr.Answer) → IsStopOf (IsSaidOfProtocol (λ at. fault ≡ scr_faults.Syntax at)) t (stops.Refused inner) →
      IsStopBy IsToldOfProjection (option_map (projects.Unprojected place role) t)
      (stops.Refused (refusal_at (codes "Unprojected") place words))
  go (Some a) said = (
    projects.Unprojected place role a,
    refl,
    (
      inner,
      less_said (λ at. fault ≡ scr_faults.Syntax at) a inner said,
      ap (λ (z : Name). refusal_at (codes "Unprojected") place z) (w ∙ ap (λ (z : Name). role ++ codes " " ++ z) k),
    ),
  )
  go None said = absurd said
