use Rattle.std.proofs.Common.{take_all, map, subst, arith}
use Rattle.scr_judge.specs.inner.Seen.{noted_in}
use Rattle.scr_tree.specs.Written.{role_name}
use Rattle.scr_judge.proofs.Duplicates.{HasNames, has_none, has_one_more}
use Rattle.scr_judge.proofs.roles.noted_roles.Goals as goal

pub loop-role-init : goal.loop-role-init
loop-role-init c = has_none _ c.in_ok-names.ensures

pub loop-role-preserved : goal.loop-role-preserved
loop-role-preserved c =
    has_one_more role_name (noted_in c.loop-role.names) c.args.roles.now c.loop-role.role-index c.role-item.result
    c.loop-role-test.true c.role-item.is c.loop-role.invariant
    c.as_str.result.now c.as_str.ensures (noted_in c.note_name.new.names) c.in_ok-note_name.ensures.names

pub returns : goal.returns
returns c = (subst (λ xs. HasNames (noted_in c.loop-role.names) (map role_name xs)) (take_all c.loop-role.role-index c.args.roles.now
    (omega arith)) c.loop-role.invariant).each
