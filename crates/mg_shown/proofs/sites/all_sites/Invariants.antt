use Rattle.std.proofs.Common.{◌≡◌, ◌++◌, drop, flat_map, map}
use Rattle.jv_core.specs.View.{method_of}
use Rattle.use_sights.specs.Calls.{site_in, uses_from, all_sites}
use Rattle.mg_shown.proofs.sites.all_sites.Given as goal

abbrev pub invariant-loop-place : goal.invariant-loop-place
invariant-loop-place l =
    l.sites.items ++ flat_map site_in (uses_from l.place (map method_of (drop l.place l.methods))) ≡ all_sites l.core
