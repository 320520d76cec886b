use Rattle.std.proofs.Common.{◌+◌, sym, ap, ◌∙◌, arith}
use Rattle.std.proofs.lemmas.Grind.{common_steps}
use Rattle.std.specs.Option.{option_or}
use Rattle.jv_types.specs.inner.Signatures.{params_seen}
use Rattle.jv_types.specs.Tables.{program_in}
use Rattle.jv_types.proofs.AtIndex.{left_misfit, left_none, left_more, same_within}
use Rattle.jv_types.specs.declared.value_type.ValueType.TheVariants.{NoValue}
use Rattle.jv_types.proofs.arguments.args_misfit.Goals as goal

pub returns-in-None : goal.returns-in-None
returns-in-None c =
    sym (c.loop-i.invariant
    ∙ left_none c.args.args.now (params_seen (program_in c.args.table.now) c.args.params) c.args.types.now c.loop-i.i c.index-args-i.result
    c.loop-i-test.true c.index-args-i.is c.in-None.ensures)

pub returns-in-Some-misfit : goal.returns-in-Some-misfit
returns-in-Some-misfit c =
    sym (c.loop-i.invariant
    ∙ left_more c.args.args.now (params_seen (program_in c.args.table.now) c.args.params) c.args.types.now c.loop-i.i c.index-args-i.result
    c.loop-i-test.true c.index-args-i.is _ _ c.in-Some.ensures
    (omega (arith, c.requires, c.loop-i-test.true))
    (same_within c.args.types.now c.loop-i.i NoValue _ (omega (arith, c.requires, c.loop-i-test.true)))
    ∙ ap (λ o. option_or o (left_misfit c.args.args.now (params_seen (program_in c.args.table.now) c.args.params) c.args.types.now
    (c.loop-i.i + 1))) (sym c.in-Some-misfit.ensures))

pub loop-i-preserved : goal.loop-i-preserved
loop-i-preserved c =
    c.loop-i.invariant
    ∙ left_more c.args.args.now (params_seen (program_in c.args.table.now) c.args.params) c.args.types.now c.loop-i.i c.index-args-i.result
    c.loop-i-test.true c.index-args-i.is _ _ c.in-Some.ensures
    (omega (arith, c.requires, c.loop-i-test.true))
    (same_within c.args.types.now c.loop-i.i NoValue _ (omega (arith, c.requires, c.loop-i-test.true)))
    ∙ ap (λ o. option_or o (left_misfit c.args.args.now (params_seen (program_in c.args.table.now) c.args.params) c.args.types.now
    (c.loop-i.i + 1))) (sym c.in_default.ensures)

pub returns : goal.returns
returns c = grind (arith, common_steps)
