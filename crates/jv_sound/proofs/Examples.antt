-- The examples are computed.
use Rattle.std.proofs.Common.{refl}
use Rattle.std.specs.Int.{int_wrap}
use Rattle.std.specs.Fmt.{digits}
use Rattle.jv_sound.specs.Counter.{CounterRuns}
use Rattle.jv_sound.proofs.CounterIsCore.{counter_is_core}

pub counter_runs : CounterRuns
unfolding int_wrap digits
counter_runs = record { is_core = ∣ counter_is_core ∣₁; ends = refl; calls_are = refl }
