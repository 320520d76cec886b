use Rattle.std.proofs.Common.{◌≡◌, Option, subst, ap, ◌∙◌, option_map}
use Rattle.std.specs.Prelude.{IfOk}
use Rattle.std.specs.List.{list_any}
use Rattle.std.specs.Str.{bytes_eq}
use Rattle.mg_read.specs.Culprit.{Culprit}
use Rattle.jv_rules.specs.inner.Deciding.{first_by}
use Rattle.jv_types.specs.declared.demands.Demand.TheVariants as demands
use Rattle.jv_types.specs.Tables.{program_in}
use Rattle.jv_types.specs.inner.Blaming.{blamed_of}
use Rattle.jv_types.specs.inner.Declaring.{broken_method}
use Rattle.jv_types.specs.inner.Kept.{typestate_in}
use Rattle.jv_types.specs.inner.Offering.{offers_seen}
use Rattle.jv_types.specs.inner.Tabled.{class_in}
use Rattle.jv_types.proofs.Finding.{any_found}
use Rattle.jv_types.proofs.Offering.{name_is, labels_of, none_answer, broken_none}
use Rattle.jv_types.proofs.labels.other_answers.Goals as goal

pub returns-then-is_some : goal.returns-then-is_some
returns-then-is_some c =
    let p = program_in c.args.table.now in
    let k = class_in c.args.entry.now in
    subst (λ (x : Option Culprit). IfOk c.broken_by.result (λ o. option_map blamed_of o ≡ x))
    (ap (λ l. first_by (broken_method p demands.OfLabels (offers_seen l)) k.methods) c.as_slice-offers.ensures.value
    ∙ labels_of p k (typestate_in c.args.entry.now) c.requires.entry.follows c.in-Some.protocol.now.of.now _ c.in-Some.protocol.now.all
    c.in-Some.ensures)
    c.broken_by.ensures

pub returns-else-is_some : goal.returns-else-is_some
returns-else-is_some c =
    none_answer (program_in c.args.table.now) (class_in c.args.entry.now) (typestate_in c.args.entry.now) c.in-Some.protocol.now.of.now
    c.args.wrong.now c.is_some.result c.requires.entry.follows c.in-Some.ensures
    c.requires.wrong c.requires.alike
    (any_found (λ n. n.0) c.as_str.result.now c.args.wrong.now c.find.result c.is_some.result c.find.ensures c.is_some.ensures
    ∙ ap (λ n. list_any (bytes_eq n) c.args.wrong.now)
    (name_is c.in-Some.protocol.now.of.now c.typestate.inside.name c.typestate.inside.states.items c.typestate.view_is c.as_str.result.now
    c.as_str.ensures))
    c.if-is_some.false

pub returns-in-None : goal.returns-in-None
returns-in-None c = broken_none (program_in c.args.table.now) (class_in c.args.entry.now) (typestate_in c.args.entry.now)
    c.requires.entry.follows demands.OfLabels c.in-None.ensures
