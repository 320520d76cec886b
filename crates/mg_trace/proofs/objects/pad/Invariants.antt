use Rattle.std.proofs.Common.{◌≡◌, ℕ, ◌+◌, length}
use Rattle.mg_trace.specs.inner.Kept.{known_at}
use Rattle.mg_trace.proofs.objects.pad.Given as goal

abbrev pub invariant-loop : goal.invariant-loop
invariant-loop l = record {
  end : l.end ≡ l.fn.object + 1;
  long : length l.objects.items ≡ l.counter;
  same : (o : ℕ) → known_at l.objects.items o ≡ known_at l.fn.objects.items o;
}
