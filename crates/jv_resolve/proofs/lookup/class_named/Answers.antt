use Rattle.std.proofs.Common.{refl, ◌∙◌}
use Rattle.jv_types.specs.Tables.{class_entries_of}
use Rattle.jv_resolve.specs.inner.Seen.{entry_seen}
use Rattle.jv_resolve.proofs.Called.{picked_at, not_picked}
use Rattle.jv_resolve.proofs.lookup.class_named.Goals as goal

pub returns-in-None : goal.returns-in-None
returns-in-None c = not_picked entry_seen (λ e. e.class.name) (λ n e. e) (class_entries_of c.args.table.now) _ refl c.args.name.now
    c.in-None.ensures

pub returns-in-Some : goal.returns-in-Some
returns-in-Some c =
    c.class_at.ensures ∙ picked_at entry_seen (λ e. e.class.name) (λ n e. e) (class_entries_of c.args.table.now) _ refl c.args.name.now
    c.in-Some.number c.in-Some.ensures
