use Rattle.std.proofs.Common.{rules}
use Rattle.lsp_notes.proofs.Grouping.{put_by}
use Rattle.lsp_notes.proofs.homes.put.Goals as goal

pub returns-in_ok-push : goal.returns-in_ok-push
returns-in_ok-push c =
    put_by (λ g. g.items) c.args.groups.now.items c.args.number c.args.refusal c.index_mut-group.result.now c.push.new.self (search rules)
    c.index_mut-group.ensures.value c.in_ok-push.ensures.items
