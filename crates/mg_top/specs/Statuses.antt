-- The status of a run.
use Rattle.std.specs.Prelude.{List, if◌then◌else◌}
use Rattle.std.specs.List.{list_any}
use Rattle.vm_world_law.specs.declared.stand.Stand.{Stand}
use Rattle.vm_world_law.specs.Turns.{is_bound, is_broken, is_zero, is_mismatch, is_waiting}
use Rattle.mg_delivery.specs.declared.status.Status.{Status}
use Rattle.mg_delivery.specs.declared.status.Status.TheVariants as statuses

-- By how its roles stand: the first that applies.
abbrev pub status_of : List Stand → Status
status_of all =
    if list_any is_bound all then statuses.Bound
    else if list_any is_broken all then statuses.Broken
    else if list_any is_zero all then statuses.Zero
    else if list_any is_mismatch all then statuses.Mismatch
    else if list_any is_waiting all then statuses.Waits
    else statuses.Done
