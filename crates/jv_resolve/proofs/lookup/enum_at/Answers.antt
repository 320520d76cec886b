use Rattle.jv_tree.specs.View.{enum_of}
use Rattle.jv_types.specs.Tables.{enum_entries_of}
use Rattle.jv_resolve.proofs.Called.{seen_at}
use Rattle.jv_resolve.proofs.lookup.enum_at.Goals as goal

pub returns : goal.returns
returns c = seen_at (λ e. enum_of e.of.now) (enum_entries_of c.args.table.now) c.enums.result.now c.enums.ensures c.args.number c.get.result
    c.get.ensures.lookup
