-- What the functions that write class files may answer.
use Rattle.std.specs.Prelude.{Option, Some, None}
use Rattle.gen_rules.specs.Limits.{CodeTooLong, TooManyLocals, PoolFull, TextTooLong, Excess}
use Rattle.gen_members.specs.declared.faults.GenFault.{GenFault}
use Rattle.gen_members.specs.declared.faults.GenFault.TheVariants as faults

-- the excess that a fault tells
abbrev pub excess_in : GenFault → Option Excess
excess_in (faults.CodeTooLong place name) = Some (record { limit = CodeTooLong; place = place; name = name })
excess_in (faults.TooManyLocals place name) = Some (record { limit = TooManyLocals; place = place; name = name })
excess_in (faults.PoolFull place name) = Some (record { limit = PoolFull; place = place; name = name })
excess_in (faults.TextTooLong place name) = Some (record { limit = TextTooLong; place = place; name = name })
excess_in faults.Memory = None
