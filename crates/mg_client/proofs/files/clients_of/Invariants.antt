use Rattle.std.proofs.Common.{option_map}
use Rattle.mg_sources.specs.Files.{sources}
use Rattle.mg_client.proofs.Each.{PlaysSoFar}
use Rattle.mg_client.proofs.files.clients_of.Given as goal

abbrev pub invariant-loop-number : goal.invariant-loop-number
invariant-loop-number l = PlaysSoFar (option_map (λ p. p.now) l.package_name) (sources l.names l.contents) l.number l.files.items
