use Rattle.std.proofs.Common.{◌≡◌, ◌≤◌, take}
use Rattle.mg_runs.specs.Runs.{messages_in}
use Rattle.mg_runs.proofs.sent.messages_in.Given as goal

abbrev pub invariant-loop-place : goal.invariant-loop-place
invariant-loop-place l = record {
  counted : l.count ≡ messages_in (take l.place l.events.items);
  within : l.count ≤ l.place;
}
