use Rattle.std.proofs.Common.{◌≡◌, drop}
use Rattle.std.specs.List.{list_any}
use Rattle.std.specs.Str.{bytes_eq}
use Rattle.stm_client.specs.Client.{Loop}
use Rattle.stm_client.specs.View.{loops_of}
use Rattle.stm_client.proofs.labels.has_label.Given as goal

abbrev pub invariant-loop-around : goal.invariant-loop-around
invariant-loop-around l =
    list_any (λ (x : Loop). bytes_eq x.label l.label) (loops_of l.loops)
    ≡ list_any (λ (x : Loop). bytes_eq x.label l.label) (loops_of (drop l.around-index l.loops))
