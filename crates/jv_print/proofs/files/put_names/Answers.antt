use Rattle.std.proofs.Common.{arith, [], ◌∷◌, refl, string_bytes, ◌∙◌}
use Rattle.jv_print.proofs.Laid.{name_steps}
use Rattle.jv_print.proofs.Joins.{name_more}
use Rattle.jv_print.proofs.files.put_names.Goals as goal

pub loop-name-preserved : goal.loop-name-preserved
unfolding lib.Utf8.encode
loop-name-preserved c = (
  (44 ∷ 32 ∷ [], (refl, refl)),
  c.loop-name.invariant.1
      ∙ name_more (string_bytes c.loop-name.out) (string_bytes c.put.new.out)
      c.loop-name.before.now c.args.names.now c.loop-name.name-index
      c.name-item.result c.as_str.result.now c.loop-name-test.true c.name-item.is c.as_str.ensures c.in_ok-put.ensures,
)

pub returns : goal.returns
returns c = grind (arith, name_steps)
