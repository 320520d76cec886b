use Rattle.std.proofs.Common.{◌++◌, ◌∙◌, ap, string_bytes}
use Rattle.mg_load.proofs.Steps.{branch_is}
use Rattle.mg_load.proofs.protocols.push_branch.Goals as goal

pub returns : goal.returns
returns c = c.in_ok-write.ensures.bytes
    ∙ ap (λ l. string_bytes c.args.out.now ++ l) (branch_is c.args.there.now c.args.back.now c.args.number)
