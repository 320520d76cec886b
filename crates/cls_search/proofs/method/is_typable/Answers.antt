use Rattle.std.proofs.Common.{◌≡◌, length, refl, sym, ap, ◌∙◌, eqb-true, arith}
use Rattle.std.proofs.lemmas.List.{length-map}
use Rattle.vm_model.specs.View.{method_of, instr_of}
use Rattle.cls_rows.specs.declared.frame.Scene.{Scene}
use Rattle.cls_search.specs.declared.walk.Body.{Body}
use Rattle.cls_search.proofs.Searched.{no_instruction, method_ready, method_setting, method_begun, method_then}
use Rattle.cls_search.proofs.method.is_typable.Goals as goal

pub returns-then-is_empty : goal.returns-then-is_empty
returns-then-is_empty c =
    let none : length c.as_slice-code.result.now ≡ 0 =
    eqb-true (length c.as_slice-code.result.now) 0 (sym c.is_empty.ensures ∙ c.if-is_empty.true) in
    λ p class number i. no_instruction p class number c.args.program.now (method_of c.args.method.now) c.args.kinds.now i
    (length-map c.args.method.now.code.items instr_of ∙ ap length (sym c.as_slice-code.ensures.items) ∙ none)

pub settles-requires : goal.settles-requires
settles-requires c =
    let (p, (class, (number, i))) = c.requires in
    let scene : Scene = record { program = c.args.program; result = c.args.kinds.now.result; max_stack = c.from-2.result } in
    let b : Body = record { scene = scene; code = c.as_slice-code.result; joins = c.as_slice.result } in
    let ready = method_ready c.args.method.now c.args.kinds.now c.in_ok-found.found b
    (omega (arith, c.if-len-from.false, c.len.ensures, c.from.ensures)) c.as_slice-code.ensures.items c.is_empty.ensures c.if-is_empty.false
    c.in_ok-joins.ensures c.as_slice.ensures.value c.in_ok-found.ensures refl c.from-2.ensures in
    (method_setting ready p class number i, method_begun ready p class number i)

pub returns : goal.returns
returns c =
    let scene : Scene = record { program = c.args.program; result = c.args.kinds.now.result; max_stack = c.from-2.result } in
    let b : Body = record { scene = scene; code = c.as_slice-code.result; joins = c.as_slice.result } in
    let ready = method_ready c.args.method.now c.args.kinds.now c.in_ok-found.found b
    (omega (arith, c.if-len-from.false, c.len.ensures, c.from.ensures)) c.as_slice-code.ensures.items c.is_empty.ensures c.if-is_empty.false
    c.in_ok-joins.ensures c.as_slice.ensures.value c.in_ok-found.ensures refl c.from-2.ensures in
    method_then ready c.settles.result c.settles.ensures
