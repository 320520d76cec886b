use Rattle.std.proofs.Common.{arith, [], ◌∷◌, refl, string_bytes, ◌∙◌}
use Rattle.jv_print.proofs.Laid.{param_steps}
use Rattle.jv_print.proofs.Joins.{param_more}
use Rattle.jv_print.proofs.files.put_params.Goals as goal

pub loop-param-preserved : goal.loop-param-preserved
unfolding lib.Utf8.encode
loop-param-preserved c = (
  (44 ∷ 32 ∷ [], (refl, refl)),
  c.loop-param.invariant.1
      ∙ param_more (string_bytes c.loop-param.out) (string_bytes c.put.new.out) c.loop-param.before.now c.args.params.now
      c.loop-param.param-index c.param-item.result c.type_text.result.now c.as_str.result.now c.loop-param-test.true c.param-item.is
      c.type_text.ensures c.as_str.ensures c.in_ok-put.ensures,
)

pub returns : goal.returns
returns c = grind (arith, param_steps)
