use Rattle.std.proofs.Common.{◌≡◌, ◌∙◌, ◌+◌, ◌-◌, ◌<◌, ◌≤◌, List, ℕ, Some, take, drop, length, length-drop, ap, sym, arith}
use Rattle.lsp_spans.specs.Words.{begins_word, path_from, joint_len, front_len, is_word_byte}
use Rattle.lsp_spans.proofs.Paths.{over_word, behind_word, ended, left, read_from}
use Rattle.lsp_spans.proofs.words.path_len.Goals as goal

pub joints-init : goal.joints-init
joints-init c = record {
  within = c.word_run-len.ensures.within;
  ended = ap (λ n. begins_word (drop n c.args.bytes.now)) c.word_run-len.ensures.value ∙ behind_word c.args.bytes.now;
  left = ap (λ n. n + path_from 0 (drop n c.args.bytes.now)) c.word_run-len.ensures.value ∙ over_word c.args.bytes.now;
}

pub joints-preserved : goal.joints-preserved
joints-preserved c =
    let bs : List ℕ = c.args.bytes.now in
    let at : ℕ = c.joints.len in
    let joint : ℕ = c.in-Some.joint in
    let word : ℕ = c.word_run-len-in-Some.result in
    let is : joint_len (drop at bs) ≡ Some joint =
    sym (c.in-Some.ensures.value ∙ ap joint_len (read_from bs at)) in
    let long : word ≡ front_len is_word_byte (drop (at + joint) bs) =
    c.word_run-len-in-Some.ensures.value ∙ ap (front_len is_word_byte) (read_from bs (at + joint)) in
    let took : length (take (length bs - at) (drop at bs)) ≡ length (drop at bs) = ap length (read_from bs at) in
    let took_more : length (take (length bs - (at + joint)) (drop (at + joint) bs)) ≡ length (drop (at + joint) bs) =
    ap length (read_from bs (at + joint)) in
    let fits : joint ≤ length (drop at bs) = omega (arith, took, c.in-Some.ensures.within.1) in
    let some : 0 < joint = c.in-Some.ensures.within.0 in
    let less : at + joint ≤ length bs = omega (arith, fits, length-drop at bs, c.joints.invariant.within) in
    record {
      within = omega (arith, c.word_run-len-in-Some.ensures.within, took_more, length-drop (at + joint) bs, less);
      ended = ended bs at joint word c.joints.invariant.ended is some fits long;
      left = left bs at joint word c.joints.invariant.ended is some fits long c.joints.invariant.left;
    }
