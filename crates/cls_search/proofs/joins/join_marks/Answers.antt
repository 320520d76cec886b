use Rattle.std.proofs.lemmas.Grind.{common_steps}
use Rattle.std.proofs.Common.{◌+◌, List, Bool, Some, map, sym, ap, subst, ◌∙◌, option_map, arith}
use Rattle.std.proofs.lemmas.List.{length-map}
use Rattle.std.proofs.lemmas.Option.{slice_get-map, slice_get-get_or}
use Rattle.vm_model.specs.declared.linked.LinkedInstr.{LinkedInstr}
use Rattle.vm_model.specs.View.{instr_of}
use Rattle.cls_search.specs.Marked.{KeepsMarks}
use Rattle.cls_search.proofs.Marking.{JoinsSoFar, joins_more, joins_all, written}
use Rattle.cls_search.proofs.joins.join_marks.Goals as goal

pub loop-instr-preserved : goal.loop-instr-preserved
loop-instr-preserved c =
    let code = c.args.code.now in
    let index = c.loop-instr.instr-index in
    let item : LinkedInstr = c.instr-item.result in
    let old = c.loop-instr.marks.items in
    let new = c.mark_jumps.new.marks in
    let keeps : KeepsMarks old new = subst (λ (xs : List Bool). KeepsMarks xs new) c.as_mut_slice-in-loop-instr.ensures.value
    c.mark_jumps.ensures.kept in
    let whole = written c.loop-instr.marks.len new old keeps.many c.loop-instr.marks.ok.0 in
    subst (λ (xs : List Bool). JoinsSoFar (map instr_of code) xs (index + 1)) (sym whole)
    (joins_more (map instr_of code) old new index (instr_of item) c.loop-instr.invariant keeps
    (slice_get-map instr_of code index ∙ ap (option_map instr_of) (slice_get-get_or code index item c.loop-instr-test.true ∙
    ap Some (sym c.instr-item.is)))
    c.mark_jumps.ensures.marked)

pub returns : goal.returns
returns c =
    joins_all (map instr_of c.args.code.now) c.loop-instr.marks.items c.loop-instr.instr-index c.loop-instr.invariant
    (let l = length-map c.args.code.now instr_of in omega (arith, l, c.loop-instr-test.false))

pub loop-instr-init : goal.loop-instr-init
loop-instr-init c = grind (arith, common_steps)
