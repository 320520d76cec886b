use Rattle.std.proofs.Common.{arith}
use Rattle.std.proofs.lemmas.Grind.{common_steps}
use Rattle.vm_step.proofs.objects.blanks.Goals as goal

pub loop-field-preserved : goal.loop-field-preserved
loop-field-preserved c = record {
  values = λ texts. grind (arith, common_steps, c.loop-field.invariant.values texts, c.blank.ensures.value texts);
  set = λ count. grind (arith, common_steps, c.loop-field.invariant.set count, c.blank.ensures.set count);
}

pub returns-clause-values : goal.returns-clause-values
returns-clause-values c = λ texts. grind (arith, common_steps, c.loop-field.invariant.values texts)
