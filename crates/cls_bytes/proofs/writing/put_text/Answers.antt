use Rattle.std.proofs.Common.{◌++◌, ◌∷◌, [], length, ap, ◌∙◌}
use Rattle.cls_tree.specs.Layout.{u2}
use Rattle.cls_tree.specs.Modified.{modified}
use Rattle.cls_bytes.proofs.Written.{three}
use Rattle.cls_bytes.proofs.writing.put_text.Goals as goal

pub returns : goal.returns
returns c =
    let text = c.args.text.now in
    three c.args.out.now c.extend.new.self c.put_u2.new.out c.extend-2.new.self (1 ∷ []) (u2 (length (modified text))) (modified text)
    c.in_ok-extend.ensures.ok
    (c.in_ok-put_u2.ensures ∙ ap (λ n. c.extend.new.self ++ u2 n) (c.len.ensures ∙ ap length c.in_ok-bytes.ensures))
    (c.in_ok-extend-2.ensures.ok ∙ ap (λ t. c.put_u2.new.out ++ t) (c.as_slice.ensures ∙ c.in_ok-bytes.ensures))
