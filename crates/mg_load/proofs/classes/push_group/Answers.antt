use Rattle.std.proofs.Common.{◌++◌, ◌∙◌, ap, string_bytes}
use Rattle.mg_load.proofs.Steps.{group_is}
use Rattle.mg_load.proofs.classes.push_group.Goals as goal

pub returns : goal.returns
returns c = c.in_ok-write.ensures.bytes ∙ ap (λ l. string_bytes c.args.out.now ++ l) (group_is c.args.number)
