-- What a finding holds.
use Rattle.std.specs.Prelude.{List, []}
use Rattle.mg_refusal.specs.Refusals.{Refusal}
use Rattle.mg_faults.specs.declared.judged.Finding.{Finding}
use Rattle.mg_faults.specs.declared.judged.Finding.TheVariants as findings

-- all that is wrong
abbrev pub refusals_in : Finding → List Refusal
refusals_in (findings.Accepted a) = []
refusals_in (findings.Refused rs) = rs.items
