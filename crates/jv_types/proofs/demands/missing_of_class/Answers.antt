use Rattle.std.proofs.Common.{ap, ◌∙◌}
use Rattle.jv_rules.specs.inner.Deciding.{first_by}
use Rattle.jv_types.specs.Tables.{program_in}
use Rattle.jv_types.specs.inner.Declaring.{missing_method}
use Rattle.jv_types.specs.inner.Kept.{typestate_in}
use Rattle.jv_types.specs.inner.Offering.{offers_seen}
use Rattle.jv_types.specs.inner.Tabled.{class_in}
use Rattle.jv_types.proofs.Offering.{missing_of, missing_none}
use Rattle.jv_types.proofs.demands.missing_of_class.Goals as goal

pub returns-in-Some : goal.returns-in-Some
returns-in-Some c =
    let k = class_in c.args.entry.now in
    c.missing_in.ensures ∙ ap (λ l. first_by (missing_method k) (offers_seen l)) c.as_slice.ensures.value
    ∙ missing_of (program_in c.args.table.now) k (typestate_in c.args.entry.now) c.requires.follows c.in-Some.protocol.now.of.now _
    c.in-Some.protocol.now.first c.in-Some.ensures

pub returns-in-None : goal.returns-in-None
returns-in-None c = missing_none (program_in c.args.table.now) (class_in c.args.entry.now) (typestate_in c.args.entry.now)
    c.requires.follows c.in-None.ensures
