use Rattle.gen_members.proofs.Judging.{some_behind}
use Rattle.gen_members.proofs.exceeding.has_long_behind.Goals as goal

pub returns-then-old-entries : goal.returns-then-old-entries
returns-then-old-entries c = some_behind _ c.args.pool.now c.args.old c.entries-entries.ensures c.has_long.result c.has_long.ensures
