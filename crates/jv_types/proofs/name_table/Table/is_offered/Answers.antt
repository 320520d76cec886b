use Rattle.std.proofs.Common.{Some, None, ◌∙◌}
use Rattle.jv_types.specs.Tables.{program_in}
use Rattle.jv_types.specs.inner.Tabled.{class_in}
use Rattle.jv_types.proofs.Offering.{of_protocol}
use Rattle.jv_types.proofs.name_table.Table.is_offered.Goals as goal

pub returns-in-Some : goal.returns-in-Some
returns-in-Some c =
    c.has_offer.ensures ∙ of_protocol (program_in c.args.self.now) (class_in c.args.entry.now) (Some c.in-Some.protocol.now.of.now)
    c.args.name.now c.in-Some.ensures

pub returns-in-None : goal.returns-in-None
returns-in-None c = of_protocol (program_in c.args.self.now) (class_in c.args.entry.now) None c.args.name.now c.in-None.ensures
