use Rattle.std.proofs.Common.{arith}
use Rattle.jv_types.proofs.Entries.{within}
use Rattle.jv_types.proofs.Entries.{class_within, class_found, class_missing, entry_at}
use Rattle.jv_types.proofs.name_table.Table.class_named.Goals as goal

pub returns-in-Some-clause-class : goal.returns-in-Some-clause-class
returns-in-Some-clause-class c = class_found c.args.self.now.tabled c.args.name.now c.in-Some.number.0 c.in-Some.ensures c.index.result.now
    c.index.ensures

pub returns-in-Some-clause-entry : goal.returns-in-Some-clause-entry
returns-in-Some-clause-entry c =
    entry_at c.args.self.now.tabled c.in-Some.number.0 c.index.result.now (class_within c.args.self.now.tabled c.args.name.now
    c.in-Some.number.0 c.in-Some.ensures) c.index.ensures

pub returns-in-None-clause-class : goal.returns-in-None-clause-class
returns-in-None-clause-class c = class_missing c.args.self.now.tabled c.args.name.now c.in-None.ensures
