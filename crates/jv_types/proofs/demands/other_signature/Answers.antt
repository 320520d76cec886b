use Rattle.std.proofs.Common.{◌≡◌, Option, subst, ap, ◌∙◌, option_map}
use Rattle.std.specs.Prelude.{IfOk}
use Rattle.mg_read.specs.Culprit.{Culprit}
use Rattle.jv_rules.specs.inner.Deciding.{first_by}
use Rattle.jv_types.specs.declared.demands.Demand.TheVariants as demands
use Rattle.jv_types.specs.Tables.{program_in}
use Rattle.jv_types.specs.inner.Blaming.{blamed_of}
use Rattle.jv_types.specs.inner.Declaring.{broken_method}
use Rattle.jv_types.specs.inner.Kept.{typestate_in}
use Rattle.jv_types.specs.inner.Offering.{offers_seen}
use Rattle.jv_types.specs.inner.Tabled.{class_in}
use Rattle.jv_types.proofs.Offering.{signature_of, broken_none}
use Rattle.jv_types.proofs.demands.other_signature.Goals as goal

pub returns-in-Some : goal.returns-in-Some
returns-in-Some c =
    let p = program_in c.args.table.now in
    let k = class_in c.args.entry.now in
    subst (λ (x : Option Culprit). IfOk c.broken_by.result (λ o. option_map blamed_of o ≡ x))
    (ap (λ l. first_by (broken_method p demands.OfSignature (offers_seen l)) k.methods) c.as_slice-firsts.ensures.value
    ∙ signature_of p k (typestate_in c.args.entry.now) c.requires.follows c.in-Some.protocol.now.of.now _ c.in-Some.protocol.now.alike
    c.in-Some.protocol.now.first c.in-Some.ensures)
    c.broken_by.ensures

pub returns-in-None : goal.returns-in-None
returns-in-None c = broken_none (program_in c.args.table.now) (class_in c.args.entry.now) (typestate_in c.args.entry.now) c.requires.follows
    demands.OfSignature c.in-None.ensures
