use Rattle.std.proofs.Common.{◌<◌, ℕ, List, [], ◌∷◌, ◌++◌, take, length, sym, ap, ◌∙◌, arith}
use Rattle.std.proofs.lemmas.List.{take_more}
use Rattle.lsp_server.specs.Showing.{is_among}
use Rattle.lsp_server.proofs.judging.noted_names.Goals as goal

pub loop-name-preserved : goal.loop-name-preserved
loop-name-preserved c =
    let names : List (List ℕ) = c.args.names.now in
    let i : ℕ = c.loop-name.name-index in
    let name : List ℕ = c.name-item.result in
    let fits : i < length names = omega arith in
    c.in_ok-note.ensures (take i names) c.loop-name.invariant
    ∙ ap (λ (x : List ℕ). is_among (take i names ++ x ∷ [])) (c.as_bytes.ensures.value ∙ c.as_str.ensures ∙ c.name-item.is)
    ∙ ap is_among (sym (take_more names i name fits))
