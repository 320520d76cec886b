use Rattle.std.proofs.Common.{ℕ, List, [], ◌∷◌, ap, ◌∙◌}
use Rattle.std.proofs.lemmas.Result.{IfOk-weaker}
use Rattle.mg_client.proofs.Found.{two_kinds, judged_same}
use Rattle.mg_client.proofs.files.is_accepted.Goals as goal

pub are_accepted-requires-clause-kinds : goal.are_accepted-requires-clause-kinds
are_accepted-requires-clause-kinds c =
    two_kinds c.as_slice.result.now c.args.name.now c.args.file.now.name (c.as_slice.ensures.items ∙ c.in_ok-names.ensures)
    c.requires.scribble c.requires.java

pub returns : goal.returns
returns c =
    IfOk-weaker c.are_accepted.result _ _ (λ b h.
    judged_same b c.as_slice.result.now c.as_slice-2.result.now (c.args.name.now ∷ c.args.file.now.name ∷ [])
    (c.args.bytes.now ∷ c.args.file.now.text ∷ []) (c.as_slice.ensures.items ∙ c.in_ok-names.ensures)
    (c.as_slice-2.ensures.items ∙ c.in_ok-contents.ensures
    ∙ ap (λ (text : List ℕ). c.args.bytes.now ∷ text ∷ []) (c.as_bytes.ensures.value ∙ c.as_str.ensures)) h) c.are_accepted.ensures
