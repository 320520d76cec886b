-- Edges are added to a node, as the program has them.
use Rattle.std.proofs.Common.{◌≡◌, ℕ, ◌<◌, List, [], ◌++◌, Vec, length, get_or, set, sym, ap, ◌∙◌}
use Rattle.std.specs.Global.{Global}
use Rattle.std.proofs.lemmas.List.{map-set, get_or-map}
use Rattle.scr_judge.specs.inner.View.{graph_of}

-- there is
pub graph_more : (ts : List (Vec ℕ Global)) (node : ℕ) (d v : Vec ℕ Global) (more : List ℕ) → node < length ts →
    v.items ≡ (get_or ts node d).items ++ more →
    graph_of (set ts node v) ≡ set (graph_of ts) node (get_or (graph_of ts) node [] ++ more)
graph_more ts node d v more within e =
    map-set (λ (v : Vec ℕ Global). v.items) ts node v
    ∙ ap (set (graph_of ts) node) (e ∙ ap (λ (l : List ℕ). l ++ more)
    (sym (get_or-map (λ (v : Vec ℕ Global). v.items) ts node d [] within)))
