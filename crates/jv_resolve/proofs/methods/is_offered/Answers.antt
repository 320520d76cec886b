use Rattle.std.proofs.Common.{sym, ap}
use Rattle.std.specs.Option.{option_map}
use Rattle.jv_resolve.specs.inner.Seen.{entry_seen, tables_seen}
use Rattle.jv_resolve.proofs.MethodSteps.{none_followed, none_there, one_followed}
use Rattle.jv_resolve.proofs.methods.is_offered.Goals as goal

pub returns-in-None : goal.returns-in-None
returns-in-None c = none_followed (tables_seen c.args.table.now) (entry_seen c.args.entry.now) c.args.name.now
    (ap (option_map (λ t. t.number)) c.in-None.is)

pub returns-in-None-protocol_at : goal.returns-in-None-protocol_at
returns-in-None-protocol_at c =
    none_there (tables_seen c.args.table.now) (entry_seen c.args.entry.now) c.args.name.now c.in-Some.named.number
    (ap (option_map (λ t. t.number)) c.in-Some.is) (sym c.in-None-protocol_at.ensures)

pub returns-in-Some-protocol_at : goal.returns-in-Some-protocol_at
returns-in-Some-protocol_at c =
    one_followed (tables_seen c.args.table.now) (entry_seen c.args.entry.now) c.args.name.now c.in-Some.named.number
    (ap (option_map (λ t. t.number)) c.in-Some.is)
    c.in-Some-protocol_at.followed.now.of.now c.has_offer.result (sym c.in-Some-protocol_at.ensures) c.has_offer.ensures
