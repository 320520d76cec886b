use Rattle.std.proofs.Common.{arith}
use Rattle.jv_types.proofs.Entries.{within}
use Rattle.jv_types.proofs.Entries.{enum_found, enum_missing}
use Rattle.jv_types.proofs.name_table.Table.enum_named.Goals as goal

pub returns-in-Some : goal.returns-in-Some
returns-in-Some c = enum_found c.args.self.now.tabled c.args.name.now c.in-Some.number.0 c.in-Some.ensures c.index.result.now
    c.index.ensures

pub returns-in-None : goal.returns-in-None
returns-in-None c = enum_missing c.args.self.now.tabled c.args.name.now c.in-None.ensures
