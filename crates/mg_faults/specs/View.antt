-- What finding all that is wrong with the files of a command may answer.
use Rattle.std.specs.Prelude.{◌≡◌, List}
use Rattle.jv_core.specs.Tree as Core
use Rattle.mg_refusal.specs.Refusals.{Refusal}
use Rattle.mg_sources.specs.Files.{Source}
use Rattle.mg_accepted.specs.View.{IsProgramOf}
use Rattle.mg_faults.specs.declared.judged.Finding.{Finding}
use Rattle.mg_faults.specs.declared.judged.Finding.TheVariants as findings
use Rattle.mg_faults.specs.Faults.{AllRefusals, IsAmong}

abbrev pub IsFound : List Source → Finding → Type 0
IsFound files (findings.Accepted a) = IsProgramOf files a
IsFound files (findings.Refused rs) = AllRefusals files rs.items

-- this core
abbrev pub IsAccepted : Core.Program → Finding → Type 0
IsAccepted core (findings.Accepted a) = a.core ≡ core
IsAccepted core (findings.Refused rs) = ⊥

-- this refusal, and maybe more
abbrev pub IsToldOf : Refusal → Finding → Type 0
IsToldOf r (findings.Accepted a) = ⊥
IsToldOf r (findings.Refused rs) = IsAmong rs.items r
