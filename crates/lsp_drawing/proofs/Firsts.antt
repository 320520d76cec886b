-- Where an object begins.
use Rattle.std.proofs.Common.{◌≡◌, ℕ, List, ◌++◌, codes, sym, ap, ◌∙◌, append_assoc}
use Rattle.ts_tree.specs.declared.parts.To.{To}
use Rattle.ts_tree.specs.declared.parts.To.TheVariants as tos
use Rattle.ts_tree.specs.Typestate.{State}
use Rattle.lsp_drawing.specs.Diagrams.{end_text, first_arrow}

-- what was written, piece by piece, is the first arrow
pub first_done : (states : List State) (to : To) (n : ℕ) (old a b c name : List ℕ) → to ≡ tos.State n → a ≡ old ++ codes "    [*] --> "
    → b ≡ a ++ name → name ≡ end_text states to → c ≡ b ++ codes "\n" → c ≡ old ++ first_arrow states to
first_done states to n old a b c name is begun named text ended =
    let begin = codes "    [*] --> " in
    let line = codes "\n" in
    let E = end_text states (tos.State n) in
    ended
    ∙ ap (λ (t : List ℕ). t ++ line) (named ∙ ap (λ (t : List ℕ). t ++ name) begun)
    ∙ ap (λ (t : List ℕ). ((old ++ begin) ++ t) ++ line) (text ∙ ap (end_text states) is)
    ∙ append_assoc (old ++ begin) E line
    ∙ append_assoc old begin (E ++ line)
    ∙ ap (λ (t : List ℕ). old ++ t) (sym (append_assoc begin E line))
    ∙ ap (λ (t : To). old ++ first_arrow states t) (sym is)
