-- The limits that the program tells.
use Rattle.gen_members.specs.declared.exceeding.Limit.{Limit as KeptLimit}
use Rattle.gen_members.specs.declared.exceeding.Limit.TheVariants as kept
use Rattle.gen_rules.specs.Limits.{Limit, CodeTooLong, TooManyLocals, PoolFull, TextTooLong}

abbrev pub limit_of : KeptLimit → Limit
limit_of kept.CodeTooLong = CodeTooLong
limit_of kept.TooManyLocals = TooManyLocals
limit_of kept.PoolFull = PoolFull
limit_of kept.TextTooLong = TextTooLong
