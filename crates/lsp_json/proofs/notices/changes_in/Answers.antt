use Rattle.std.proofs.Common.{◌<◌, ◌≤◌, length, List, map, Option, option_map, arith, ap, sym, ◌∙◌}
use Rattle.lsp_text.specs.declared.changes.Change.{Change}
use Rattle.serde_json.specs.View.{items_view}
use Rattle.lsp_json.specs.Heard.{Edit, edit}
use Rattle.lsp_json.specs.Reading.{edits_of}
use Rattle.lsp_json.proofs.Lists.{before, before_nothing, edits_more, edits_none, edits_whole}
use Rattle.lsp_json.proofs.notices.changes_in.Goals as goal

pub loop-value-init : goal.loop-value-init
loop-value-init c =
    let rest : Option (List Edit) = edits_of (items_view c.args.values.now) in
    ap (λ (cs : List Change). before (map edit cs) rest) c.new-changes.ensures.items ∙ before_nothing rest

pub loop-value-preserved : goal.loop-value-preserved
loop-value-preserved c =
    let less : c.loop-value.value-index < length c.args.values.now = omega arith in
    edits_more c.loop-value.changes.items _ c.in-Some.change c.args.values.now c.loop-value.value-index c.value-item.result less c.value-item.is
    (sym (ap (option_map edit) c.in-Some.is) ∙ c.in_ok-read.ensures) c.in_ok-push-in-Some.ensures.items ∙ c.loop-value.invariant

pub returns-in-None : goal.returns-in-None
returns-in-None c =
    let less : c.loop-value.value-index < length c.args.values.now = omega arith in
    sym (edits_none c.loop-value.changes.items c.args.values.now c.loop-value.value-index c.value-item.result less c.value-item.is
    (sym (ap (option_map edit) c.in-None.is) ∙ c.in_ok-read.ensures)) ∙ c.loop-value.invariant

pub returns : goal.returns
returns c =
    let over : length c.args.values.now ≤ c.loop-value.value-index = omega arith in
    sym (edits_whole c.loop-value.changes.items c.args.values.now c.loop-value.value-index over) ∙ c.loop-value.invariant
