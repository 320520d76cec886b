-- What is told of faults, by the code.
use Rattle.std.specs.Prelude.{◌≡◌, ℕ, List, [], ◌∷◌, ◌++◌, codes}
use Rattle.scr_project.specs.Outcome as projects
use Rattle.mg_refusal.specs.Refusals.{Refusal, refusal_at}
use Rattle.mg_sources.specs.Files.{Source, source_of}
use Rattle.mg_sources.specs.Reading.{IsSaidOfProtocol}
use Rattle.mg_projected.specs.Projected.{Answer, Files, Unread, Unprojected}
use Rattle.mg_projected.specs.Told.{IsSaidOfGlobal}

-- the one file
abbrev pub written_alone : (name bytes : List ℕ) → List Source
written_alone name bytes = source_of 0 name bytes ∷ []

-- behind the role stands the kind of its fault, whatever this is
abbrev pub IsToldOfProjection : projects.Answer → Refusal → Type 0
IsToldOfProjection (projects.Protocol local) r = ⊥
IsToldOfProjection (projects.NotMergeable place role) r = r ≡ refusal_at (codes "NotMergeable") place role
IsToldOfProjection (projects.Unprojected place role answer) r =
    (inner : Refusal) × IsSaidOfProtocol (λ at. Unit {0}) answer inner
    × (r ≡ refusal_at (codes "Unprojected") place (role ++ codes " " ++ inner.kind))

abbrev pub IsTold : Answer → Refusal → Type 0
IsTold (Files files) r = ⊥
IsTold (Unread answer) r = IsSaidOfGlobal answer r
IsTold (Unprojected answer) r = IsToldOfProjection answer r
