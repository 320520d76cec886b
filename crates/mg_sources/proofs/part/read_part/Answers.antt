use Rattle.std.proofs.Common.{Err, Result, ap, ◌∙◌}
use Rattle.std.proofs.lemmas.Result.{err_from_is_err_and}
use Rattle.scr_tree.specs.declared.local.Local.{Local}
use Rattle.scr_tree.specs.Local.{tree_of}
use Rattle.mg_refusal.specs.declared.stop.Stop.{Stop}
use Rattle.mg_refusal.proofs.Orders.{refused_by}
use Rattle.mg_sources.specs.Files.{source_of}
use Rattle.mg_sources.specs.Reading.{Protocol, Reads, Refuses}
use Rattle.mg_sources.specs.Parts.{part_of}
use Rattle.mg_sources.specs.declared.part.Part.{Part}
use Rattle.mg_sources.proofs.Endings.{left_java}
use Rattle.mg_sources.proofs.part.read_part.Goals as goal

abbrev failed : Stop → Result Part Stop
failed f = Err f

pub returns-in_err-local : goal.returns-in_err-local
returns-in_err-local c =
    let f = err_from_is_err_and c.from_residual.result c.from_residual.ensures.1 in
    let source = source_of c.args.number c.args.name.now c.args.bytes.now in
    refused_by (λ (local : Local). Reads source (Protocol (tree_of local))) (Refuses source) (λ (part : Part). Reads source (part_of part))
    (Refuses source) (λ r h. h) c.in_err-local.field-0.0
    (c.in_err-local.ensures c.args.name.now (c.ends_with.ensures.0 c.if-ends_with.true)) c.from_residual.result (f.1 ∙ ap failed f.2)

pub returns-then-ends_with : goal.returns-then-ends_with
returns-then-ends_with c = c.in_ok-local.ensures c.args.name.now (c.ends_with.ensures.0 c.if-ends_with.true)

pub returns-then-ends_with-2 : goal.returns-then-ends_with-2
returns-then-ends_with-2 c = c.read_states.ensures c.args.name.now (c.ends_with-2.ensures.0 c.if-ends_with-2.true)

pub returns : goal.returns
returns c =
    c.read_classes.ensures c.args.name.now
    (left_java (source_of c.args.number c.args.name.now c.args.bytes.now) _ _ c.requires c.ends_with.ensures c.if-ends_with.false
    c.ends_with-2.ensures c.if-ends_with-2.false)
