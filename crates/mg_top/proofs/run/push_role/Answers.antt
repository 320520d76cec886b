use Rattle.mg_top.proofs.CommandLemmas.{role_put}
use Rattle.mg_top.proofs.run.push_role.Goals as goal

pub returns : goal.returns
returns c =
    role_put _ _ _ _ _ c.args.name.now _ _ _ _ c.in_ok-push_str-2.ensures.bytes c.in_ok-push_stand.ensures c.in_ok-write.ensures.bytes
    c.in_ok-push_str.ensures.bytes
