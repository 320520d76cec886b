use Rattle.std.proofs.Common.{map}
use Rattle.mg_sources.specs.Parts.{part_of}
use Rattle.fit_judge.proofs.Spelled.{NumbersTo}
use Rattle.fit_judge.proofs.projections.places_of_protocols.Given as goal

abbrev pub invariant-loop-place : goal.invariant-loop-place
invariant-loop-place l = NumbersTo (map part_of l.parts) l.place l.places
