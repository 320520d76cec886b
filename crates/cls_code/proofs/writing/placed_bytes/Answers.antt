use Rattle.std.proofs.Common.{◌≡◌, ◌+◌, ◌++◌, ◌∷◌, [], length, take, get_or, ap, sym, ◌∙◌}
use Rattle.cls_tree.specs.View.{instr_of, instrs_of}
use Rattle.cls_tree.specs.Layout.{instr_bytes, code_bytes}
use Rattle.cls_tree.specs.Jumps.{starts_from}
use Rattle.cls_code.proofs.Layouts.{written_more, rest_fit, first_fit}
use Rattle.cls_code.proofs.writing.placed_bytes.Goals as goal

pub loop-instr-init : goal.loop-instr-init
unfolding starts_from
loop-instr-init c = record { bytes = c.new-bytes.ensures; starts = c.new-starts.ensures; fit = c.requires }

pub loop-instr-preserved : goal.loop-instr-preserved
loop-instr-preserved c =
    let k = c.loop-instr.instr-index in
    let kept = c.args.instrs.now in
    let x = c.instr-item.result in
    let w = written_more kept k x c.loop-instr-test.true in
    let is : x ≡ get_or kept k x = c.instr-item.is in
    let place : c.len-place.result ≡ length (code_bytes (instrs_of (take k kept))) = c.len-place.ensures ∙
    ap length c.loop-instr.invariant.bytes in
    record {
      bytes = c.in_ok-put_instr.ensures
          ∙ ap (λ bs. bs ++ instr_bytes c.len-place.result (instr_of x)) c.loop-instr.invariant.bytes
          ∙ ap (λ n. code_bytes (instrs_of (take k kept)) ++ instr_bytes n (instr_of x)) place
          ∙ ap (λ y. code_bytes (instrs_of (take k kept)) ++ instr_bytes (length (code_bytes (instrs_of (take k kept)))) (instr_of y)) is ∙
          sym w.0;
      starts = c.in_ok-push.ensures.ok ∙ ap (λ ns. ns ++ c.len-place.result ∷ []) c.loop-instr.invariant.starts
          ∙ ap (λ n. starts_from 0 (instrs_of (take k kept)) ++ n ∷ []) place ∙ sym w.1;
      fit = rest_fit kept k x c.loop-instr-test.true is c.loop-instr.invariant.fit;
    }

pub put_instr-requires : goal.put_instr-requires
put_instr-requires c = first_fit c.args.instrs.now c.loop-instr.instr-index c.instr-item.result c.loop-instr-test.true c.instr-item.is
    c.loop-instr.invariant.fit
