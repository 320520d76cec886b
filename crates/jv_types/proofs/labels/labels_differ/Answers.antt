use Rattle.std.proofs.Common.{arith}
use Rattle.std.proofs.lemmas.Grind.{common_steps}
use Rattle.jv_types.specs.declared.demands.Demand.TheVariants as demands
use Rattle.jv_types.specs.Tables.{program_in}
use Rattle.jv_types.specs.inner.Declaring.{broken_in_class}
use Rattle.jv_types.specs.inner.Kept.{typestate_in}
use Rattle.jv_types.specs.inner.Tabled.{class_in}
use Rattle.jv_types.proofs.MethodSteps.{entry_in}
use Rattle.jv_types.proofs.Offering.{none_at}
use Rattle.jv_types.proofs.labels.labels_differ.Goals as goal

pub other_answers-requires-clause-entry : goal.other_answers-requires-clause-entry
other_answers-requires-clause-entry c =
    entry_in (program_in c.args.table.now) c.args.entries.now c.requires.entries c.loop-item.item-index c.item-item.result
    c.loop-item-test.true c.item-item.is

pub other_answers-requires-clause-alike : goal.other_answers-requires-clause-alike
other_answers-requires-clause-alike c =
    none_at (λ e. broken_in_class (program_in c.args.table.now) demands.OfSignature (typestate_in e) (class_in e)) c.args.entries.now
    c.requires.alike
    c.loop-item.item-index c.item-item.result c.loop-item-test.true c.item-item.is

pub loop-item-preserved : goal.loop-item-preserved
loop-item-preserved c = grind (arith, common_steps)

pub returns : goal.returns
returns c = grind (arith, common_steps)

pub returns-then-is_some : goal.returns-then-is_some
returns-then-is_some c = grind (arith, common_steps)
