use Rattle.std.proofs.Common.{[], ◌∷◌, refl, string_bytes, ◌∙◌}
use Rattle.scr_read.proofs.Laid.{argument_more}
use Rattle.scr_read.proofs.print.put_arguments.Goals as goal

pub loop-role-preserved : goal.loop-role-preserved
unfolding lib.Utf8.encode
loop-role-preserved c = (
  (44 ∷ 32 ∷ [], (refl, refl)),
  c.loop-role.invariant.1
      ∙ argument_more (string_bytes c.loop-role.out) (string_bytes c.put.new.out) c.loop-role.before.now c.args.roles.now
      c.loop-role.role-index c.role-item.result c.as_str.result.now
      c.loop-role-test.true c.role-item.is c.as_str.ensures c.in_ok-put.ensures,
)
