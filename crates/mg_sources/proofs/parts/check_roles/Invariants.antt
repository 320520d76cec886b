use Rattle.std.proofs.Common.{map, take, ℕ, List}
use Rattle.mg_read.proofs.Scanning.{Left}
use Rattle.mg_sources.specs.Files.{sources}
use Rattle.mg_sources.specs.Reading.{EachSpells}
use Rattle.mg_sources.specs.Sources.{SharesRole}
use Rattle.mg_sources.specs.Parts.{part_of}
use Rattle.mg_sources.proofs.RoleLemmas.{HasExactly, roles}
use Rattle.mg_sources.proofs.parts.check_roles.Given as goal

abbrev pub invariant-loop-number : goal.invariant-loop-number
invariant-loop-number l = record {
  left : (names contents : List (List ℕ)) → EachSpells (sources names contents) (map part_of l.parts) →
      Left SharesRole (sources names contents) l.number;
  exact : HasExactly l.roles (roles (take l.number (map part_of l.parts)));
}
