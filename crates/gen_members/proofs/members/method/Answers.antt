use Rattle.std.proofs.Common.{[], ◌∷◌, ap, ◌∙◌, sym, subst}
use Rattle.std.proofs.lemmas.List.{length-map}
use Rattle.std.proofs.lemmas.Result.{err_from_is_err_and}
use Rattle.cls_tree.specs.Emitted.{utf8}
use Rattle.cls_tree.specs.Tree as file
use Rattle.gen_expressions.specs.View.{instr_of, instrs_of}
use Rattle.gen_pool.specs.Made.{IsMade}
use Rattle.gen_members.specs.Kept.{laid_of}
use Rattle.gen_members.specs.Laid.{laid}
use Rattle.gen_members.specs.Told.{Tells}
use Rattle.gen_members.specs.Parts.{compiled_of, excess_at}
use Rattle.gen_members.proofs.Stages.{member_made, judged_as, many}
use Rattle.gen_members.proofs.members.method.Goals as goal

pub code_in_file-requires-clause-numbers : goal.code_in_file-requires-clause-numbers
code_in_file-requires-clause-numbers c =
    let p = c.args.core.now in
    let m = compiled_of p c.args.making.now in
    let text = subst (λ t. IsMade c.in_ok-descriptor.descriptor c.utf8-2-2.new.self (utf8 t c.utf8-2.new.self)) c.as_str-text.ensures.value
    c.in_ok-descriptor.ensures.made in
    let lay = subst (λ is. IsMade (laid_of c.in_ok-laid.laid) c.lay_out.new.pool (laid 0 (instrs_of p is) c.utf8-3.new.self))
    c.as_slice-instrs.ensures.items
    c.in_ok-laid.ensures.made in
    (many m c.args.pool.now _ _ _ _ _ _ _ _ c.in_ok-name.ensures.made text c.in_ok-code_name.ensures.made lay).0
    ∙ length-map c.args.making.now.instrs.items (instr_of p)

pub code_in_file-requires-clause-starts : goal.code_in_file-requires-clause-starts
code_in_file-requires-clause-starts c =
    let p = c.args.core.now in
    let m = compiled_of p c.args.making.now in
    let text = subst (λ t. IsMade c.in_ok-descriptor.descriptor c.utf8-2-2.new.self (utf8 t c.utf8-2.new.self)) c.as_str-text.ensures.value
    c.in_ok-descriptor.ensures.made in
    let lay = subst (λ is. IsMade (laid_of c.in_ok-laid.laid) c.lay_out.new.pool (laid 0 (instrs_of p is) c.utf8-3.new.self))
    c.as_slice-instrs.ensures.items
    c.in_ok-laid.ensures.made in
    (many m c.args.pool.now _ _ _ _ _ _ _ _ c.in_ok-name.ensures.made text c.in_ok-code_name.ensures.made lay).1
    ∙ length-map c.args.making.now.instrs.items (instr_of p)

pub returns-clause-made : goal.returns-clause-made
returns-clause-made c =
    let p = c.args.core.now in
    let m = compiled_of p c.args.making.now in
    let text = subst (λ t. IsMade c.in_ok-descriptor.descriptor c.utf8-2-2.new.self (utf8 t c.utf8-2.new.self)) c.as_str-text.ensures.value
    c.in_ok-descriptor.ensures.made in
    let lay = subst (λ is. IsMade (laid_of c.in_ok-laid.laid) c.lay_out.new.pool (laid 0 (instrs_of p is) c.utf8-3.new.self))
    c.as_slice-instrs.ensures.items
    c.in_ok-laid.ensures.made in
    let is = c.in_ok-with_code.ensures
    ∙ ap (λ code. record {
      access = m.access;
      name = c.in_ok-name.name;
      descriptor = c.in_ok-descriptor.descriptor;
      attributes =
          file.Coded code ∷ [];
    })
    (c.in_ok-code.ensures p) in
    rw is (member_made m c.args.pool.now _ _ _ _ _ _ _ _ c.in_ok-name.ensures.made text c.in_ok-code_name.ensures.made lay)

pub returns-clause-fine : goal.returns-clause-fine
returns-clause-fine c = λ k.
    let p = c.args.core.now in
    let m = compiled_of p c.args.making.now in
    let text = subst (λ t. IsMade c.in_ok-descriptor.descriptor c.utf8-2-2.new.self (utf8 t c.utf8-2.new.self)) c.as_str-text.ensures.value
    c.in_ok-descriptor.ensures.made in
    let lay = subst (λ is. IsMade (laid_of c.in_ok-laid.laid) c.lay_out.new.pool (laid 0 (instrs_of p is) c.utf8-3.new.self))
    c.as_slice-instrs.ensures.items
    c.in_ok-laid.ensures.made in
    sym (judged_as m c.args.pool.now _ _ _ _ _ _ _ _ c.in_ok-name.ensures.made text c.in_ok-code_name.ensures.made lay p k c.len-old.result
    c.len-old.ensures)
    ∙ c.in_ok-judge.ensures.fine

pub returns-in_err-judge-clause-fault : goal.returns-in_err-judge-clause-fault
returns-in_err-judge-clause-fault c =
    let p = c.args.core.now in
    let m = compiled_of p c.args.making.now in
    let text = subst (λ t. IsMade c.in_ok-descriptor.descriptor c.utf8-2-2.new.self (utf8 t c.utf8-2.new.self)) c.as_str-text.ensures.value
    c.in_ok-descriptor.ensures.made in
    let lay = subst (λ is. IsMade (laid_of c.in_ok-laid.laid) c.lay_out.new.pool (laid 0 (instrs_of p is) c.utf8-3.new.self))
    c.as_slice-instrs.ensures.items
    c.in_ok-laid.ensures.made in
    let e = err_from_is_err_and c.from_residual-in_err-judge.result c.from_residual-in_err-judge.ensures.1 in
    rw (e.1, e.2) (λ k. subst (λ x. Tells (excess_at m.place m.told_as x) c.in_err-judge.field-0.0)
    (judged_as m c.args.pool.now _ _ _ _ _ _ _ _ c.in_ok-name.ensures.made text c.in_ok-code_name.ensures.made lay p k c.len-old.result
    c.len-old.ensures) c.in_err-judge.ensures.fault)
