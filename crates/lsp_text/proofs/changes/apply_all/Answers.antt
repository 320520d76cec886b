use Rattle.std.proofs.Common.{◌<◌, length, string_bytes, subst, arith}
use Rattle.lsp_text.specs.declared.changes.Change.{Change}
use Rattle.lsp_text.specs.Changes.{IsChanged}
use Rattle.lsp_text.proofs.ChangeLaws.{one_more, no_more}
use Rattle.lsp_text.proofs.changes.apply_all.Goals as goal

pub loop-change-preserved : goal.loop-change-preserved
loop-change-preserved c = λ last h.
    let less : c.loop-change.change-index < length c.args.changes.now = omega arith in
    let changed = subst
    (λ (x : Change). IsChanged c.args.encoding x (string_bytes c.loop-change.text) (string_bytes c.apply.new.text)) c.change-item.is
    c.in_ok-apply.ensures.ok in
    c.loop-change.invariant last
    (one_more c.args.encoding c.args.changes.now c.loop-change.change-index c.change-item.result (string_bytes c.loop-change.text)
    (string_bytes c.apply.new.text) last less changed h)

pub returns : goal.returns
returns c =
    c.loop-change.invariant (string_bytes c.loop-change.text)
    (no_more c.args.encoding c.args.changes.now c.loop-change.change-index (string_bytes c.loop-change.text) c.loop-change-test.false)
