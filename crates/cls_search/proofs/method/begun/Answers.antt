use Rattle.std.proofs.Common.{◌≡◌, ℕ, length, replicate, take, Option, Some, None, true, false, refl, sym, ap, ◌∙◌, Vec, Global}
use Rattle.std.specs.Prelude.{slice_set, List, Bool}
use Rattle.std.proofs.lemmas.List.{length-map}
use Rattle.vm_model.specs.View.{method_of, instr_of}
use Rattle.cls_kinds.specs.declared.kind.Kind.{Kind}
use Rattle.cls_rows.specs.declared.frame.Frame.{Frame}
use Rattle.cls_search.specs.Beginning.{first_kinds}
use Rattle.cls_search.proofs.method.begun.Goals as goal

pub returns : goal.returns
returns c =
    let m = method_of c.args.method.now in
    let frame : Frame = record { locals = c.in_ok-locals.locals; operands = 0 } in
    let count : c.len-count.result ≡ length m.code = c.len-count.ensures.value ∙ sym (length-map c.args.method.now.code.items instr_of) in
    record {
      frame = frame;
      locals = ap (λ (v : Vec Kind Global). v.items) c.in_ok-locals.ensures.ok ∙ c.in_ok-row.ensures
          ∙ ap (λ (ks : List Kind). take 256 (first_kinds m ks)) c.as_slice.ensures.value;
      operands = refl;
      frames = c.in_ok-keep.ensures.frames
          ∙ ap (λ (fs : List (Option Frame)). slice_set fs 0 (Some frame))
          (c.in_ok-frames.ensures ∙ ap (λ (n : ℕ). replicate n None) count);
      waiting = c.in_ok-keep.ensures.waiting
          ∙ ap (λ (ws : List Bool). slice_set ws 0 true) (c.in_ok-waiting.ensures ∙ ap (λ (n : ℕ). replicate n false) count);
      stacks = c.in_ok-keep.ensures.stacks ∙ c.in_ok-stacks.ensures;
    }
