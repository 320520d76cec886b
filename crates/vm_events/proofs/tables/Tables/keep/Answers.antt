use Rattle.std.proofs.Common.{refl}
use Rattle.vm_events.proofs.Growing.{print_kept, made_kept, enter_kept, leave_kept, look_kept}
use Rattle.vm_events.proofs.tables.Tables.keep.Goals as goal

pub returns-in-Print-clause-keeps : goal.returns-in-Print-clause-keeps
returns-in-Print-clause-keeps c =
    print_kept c.args.self.now (record { texts = c.number_of.new.self; messages = c.args.self.now.messages }) c.args.event.now
    c.number_of.result _ c.number_of.ensures.number refl c.in-Print.is

pub returns-in-Made-clause-keeps : goal.returns-in-Made-clause-keeps
returns-in-Made-clause-keeps c =
    made_kept c.args.self.now (record { texts = c.number_of-in-Made.new.self; messages = c.args.self.now.messages }) c.args.event.now
    c.in-Made.object c.number_of-in-Made.result _ c.number_of-in-Made.ensures.number refl c.in-Made.is

pub returns-in-Enter-clause-keeps : goal.returns-in-Enter-clause-keeps
returns-in-Enter-clause-keeps c =
    enter_kept c.args.self.now (record { texts = c.number_of-in-Enter.new.self; messages = c.args.self.now.messages }) c.args.event.now
    c.in-Enter.object c.number_of-in-Enter.result _ c.number_of-in-Enter.ensures.number refl c.in-Enter.is

pub returns-in-Leave-clause-keeps : goal.returns-in-Leave-clause-keeps
returns-in-Leave-clause-keeps c =
    leave_kept c.args.self.now c.args.self.now c.args.event.now c.left.result c.in-Leave.object c.in-Leave.answer c.left.ensures refl
    c.in-Leave.is

pub returns-in-Look-clause-keeps : goal.returns-in-Look-clause-keeps
returns-in-Look-clause-keeps c =
    look_kept c.args.self.now (record { texts = c.number_of-in-Look-2.new.self; messages = c.args.self.now.messages }) c.args.event.now
    c.number_of-in-Look.new.self.kept.items c.number_of-in-Look.result c.number_of-in-Look-2.result _ _ c.number_of-in-Look.ensures.number
    c.number_of-in-Look-2.ensures.number refl c.in-Look.is
