use Rattle.std.proofs.Common.{arith, ap, ◌∙◌}
use Rattle.std.proofs.lemmas.Grind.{common_steps}
use Rattle.mg_text.specs.Interned.{with_text}
use Rattle.vm_model.proofs.Queues.{one_more}
use Rattle.vm_model.proofs.ports.table_of.Goals as goal

pub loop-role-preserved : goal.loop-role-preserved
loop-role-preserved c =
    one_more c.args.roles.now c.loop-role.role-index c.role-item.result c.loop-role.names c.add.new.self c.requires c.loop-role-test.true
    c.role-item.is
    c.loop-role.invariant (c.in_ok-add.ensures.ok ∙ ap (λ t. with_text c.loop-role.names t) c.as_str.ensures)

pub returns : goal.returns
returns c = grind (arith, common_steps)
