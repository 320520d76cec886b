-- Which excess a fault tells.
use Rattle.std.specs.Prelude.{◌≡◌, Option, Some}
use Rattle.gen_rules.specs.Limits.{Excess, CodeTooLong, TooManyLocals, PoolFull, TextTooLong}
use Rattle.gen_members.specs.declared.faults.GenFault.{GenFault}
use Rattle.gen_members.specs.declared.faults.GenFault.TheVariants as faults

-- the fault tells this excess, or want of memory
abbrev pub Tells : Option Excess → GenFault → Type 0
Tells excess (faults.CodeTooLong place name) = excess ≡ Some (record { limit = CodeTooLong; place = place; name = name })
Tells excess (faults.TooManyLocals place name) = excess ≡ Some (record { limit = TooManyLocals; place = place; name = name })
Tells excess (faults.PoolFull place name) = excess ≡ Some (record { limit = PoolFull; place = place; name = name })
Tells excess (faults.TextTooLong place name) = excess ≡ Some (record { limit = TextTooLong; place = place; name = name })
Tells excess faults.Memory = Unit {0}
