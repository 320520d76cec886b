use Rattle.jv_types.proofs.Building.{constant_of_enum, enum_more}
use Rattle.jv_types.proofs.build.add_enum.Goals as goal

pub enum_entry-requires : goal.enum_entry-requires
enum_entry-requires c = constant_of_enum c.args.decl.now c.in-Enum.of c.in-Enum.is c.requires

pub returns : goal.returns
returns c = enum_more _ _ c.in_ok-entry.entry c.in-Enum.of c.args.decl.now c.in-Enum.is c.in_ok-entry.ensures c.in_ok-push.ensures.items
