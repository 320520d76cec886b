-- Where no edge leads to a higher rank, an edge to a lower one is on no cycle.
use Rattle.std.proofs.Common.{ℕ, ◌<◌, ◌≤◌, List, get_or, arith}
use Rattle.scr_judge.specs.inner.Round.{Graph, HasEdge, Reaches, there, onward, Falls}

pub falls_all : (g : Graph) (ranks : List ℕ) → Falls g ranks → {v w : ℕ} → Reaches g v w → get_or ranks w 0 ≤ get_or ranks v 0
falls_all g ranks f there = omega arith
falls_all g ranks f (onward {v = v} {w = w} e more) = let first = f v w e in let rest = falls_all g ranks f more in omega
    (arith, first, rest)

-- so nothing leads back over it
pub no_way_back : (g : Graph) (ranks : List ℕ) → Falls g ranks → (v w : ℕ) → get_or ranks w 0 < get_or ranks v 0 → Reaches g w v → ⊥
no_way_back g ranks f v w lower back = let h = falls_all g ranks f back in omega (arith, lower, h)

pub further : {g : Graph} {u v w : ℕ} → Reaches g u v → HasEdge g v w → Reaches g u w
further there e = onward e there
further (onward d more) e = onward d (further more e)
