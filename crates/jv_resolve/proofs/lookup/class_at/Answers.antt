use Rattle.jv_types.specs.Tables.{class_entries_of}
use Rattle.jv_resolve.specs.inner.Seen.{entry_seen}
use Rattle.jv_resolve.proofs.Called.{seen_at}
use Rattle.jv_resolve.proofs.lookup.class_at.Goals as goal

pub returns : goal.returns
returns c = seen_at entry_seen (class_entries_of c.args.table.now) c.classes.result.now c.classes.ensures.items c.args.number c.get.result
    c.get.ensures.lookup
