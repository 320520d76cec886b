-- The texts of worked runs are computed.
use Rattle.std.proofs.Common.{refl}
use Rattle.std.specs.Fmt.{digits}
use Rattle.mg_trace.specs.Computed.{IsTold, AreNested, AreApart, AreWorked}

told : IsTold
unfolding digits
told = refl

nested : AreNested
unfolding digits
nested = refl

apart : AreApart
unfolding digits
apart = refl

pub worked : AreWorked
worked = record {
  told = told;
  nested = nested;
  apart = apart;
  printed = record { named = refl; alone = refl; nothing = refl };
}
