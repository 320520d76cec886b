use Rattle.vm_events.proofs.Growing.{message_kept}
use Rattle.vm_events.proofs.tables.Tables.message.Goals as goal

pub returns-clause-message : goal.returns-clause-message
returns-clause-message c =
    message_kept c.args.self.now (record { texts = c.load-load.new.self.texts; messages = c.add.new.self })
    c.number_of-peer.new.self.kept.items c.number_of-label.new.self.kept.items c.load-load.new.self.messages c.len-number.result
    c.number_of-peer.result c.number_of-label.result c.load-load.result c.args.peer.now c.args.label.now c.args.payload.now
    c.number_of-peer.ensures.number c.number_of-label.ensures.number c.load-load.ensures.load
    c.load-load.ensures.messages c.len-number.ensures.value c.add.ensures.items
