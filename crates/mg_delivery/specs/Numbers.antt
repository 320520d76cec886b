-- The number of each status, with which the program ends.
use Rattle.std.specs.Prelude.{ℕ}
use Rattle.mg_delivery.specs.declared.status.Status.{Status}
use Rattle.mg_delivery.specs.declared.status.Status.TheVariants.{Done, Refused, Words, ReadFault, WriteFault, Memory, Zero, Mismatch, Waits}
use Rattle.mg_delivery.specs.declared.status.Status.TheVariants.{Bound, Broken}

abbrev pub number_of : Status → ℕ
number_of Done = 0
number_of Refused = 1
number_of Words = 2
number_of ReadFault = 3
number_of WriteFault = 4
number_of Memory = 5
number_of Zero = 6
number_of Mismatch = 7
number_of Waits = 8
number_of Bound = 9
number_of Broken = 10
