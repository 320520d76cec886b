use Rattle.std.proofs.Common.{arith}
use Rattle.std.proofs.lemmas.Grind.{common_steps}
use Rattle.jv_types.proofs.Entries.{protocol_found, protocol_missing}
use Rattle.jv_types.proofs.name_table.Table.protocol_of.Goals as goal

pub returns-in-Some-find : goal.returns-in-Some-find
returns-in-Some-find c =
    protocol_found c.args.self.now.tabled c.args.entry.now.class.now.typestate c.in-Some.name c.in-Some.is c.as_str.result.now
    c.as_str.ensures
    c.in-Some-find.number.0 c.in-Some-find.ensures c.index.result.now c.index.ensures

pub returns-in-None-find : goal.returns-in-None-find
returns-in-None-find c =
    protocol_missing c.args.self.now.tabled c.args.entry.now.class.now.typestate c.in-Some.name c.in-Some.is c.as_str.result.now
    c.as_str.ensures c.in-None-find.ensures

pub index-requires : goal.index-requires
index-requires c = grind (arith, common_steps)
