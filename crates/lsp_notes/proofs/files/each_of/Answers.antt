use Rattle.std.proofs.Common.{◌<◌, length, ◌∙◌, arith}
use Rattle.lsp_notes.proofs.Grouping.{group_is}
use Rattle.lsp_notes.proofs.Telling.{told_next}
use Rattle.lsp_notes.proofs.files.each_of.Goals as goal

pub loop-file-preserved : goal.loop-file-preserved
loop-file-preserved c = λ rs is.
    let i = c.loop-file.file in
    let count = length c.args.contents.now in
    let fits : i < count = omega arith in
    let also : i < length c.args.groups.now = omega (arith, c.requires) in
    told_next c.args.encoding count rs c.args.contents.now c.loop-file.lists.items c.push.new.self.items i c.index-contents-file.result
    c.as_slice.result.now c.as_slice-in-loop-file.result.now c.in_ok-list.list fits c.index-contents-file.is c.as_slice.ensures
    (c.as_slice-in-loop-file.ensures.value
    ∙ group_is count (λ g. g.items) c.args.groups.now rs i c.index-groups-file.result also c.index-groups-file.is is)
    (c.loop-file.invariant rs is) c.in_ok-list.ensures c.in_ok-push.ensures.items
