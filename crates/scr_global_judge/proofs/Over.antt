-- What is found over the outline of a text.
use Rattle.std.proofs.Common.{◌≡◌, [], Option, None, subst}
use Rattle.mg_text.specs.Call.{Name}
use Rattle.mg_read.specs.Culprit.{Culprit}
use Rattle.mg_read.specs.First.{Judged}
use Rattle.scr_tree.specs.Spots as local_spots
use Rattle.scr_tree.specs.Tree as local
use Rattle.scr_global.specs.Spots.{Spot, spots}
use Rattle.scr_global.specs.Tree.{Statements}
use Rattle.scr_global_judge.specs.inner.Outline.{outlined}
use Rattle.scr_global_judge.proofs.Pairs.{nobody, SameAt, judged_outline}

pub over : (At : Spot → Culprit → Type 0) (By : local_spots.Spot → Culprit → Type 0) → SameAt At By →
    (s : Statements) (t : local.Statements) (r : Option Culprit) → t ≡ outlined None s →
    Judged By (local_spots.spots [] t) r → Judged At (spots [] s) r
over At By same s t r e j = judged_outline At By same s r (subst (λ (u : local.Statements). Judged By (local_spots.spots [] u) r) e j)

-- the same of what is asked of a role's protocol
pub over_role : (At : Spot → Culprit → Type 0) (By : Name → local_spots.Spot → Culprit → Type 0) → SameAt At (By nobody) →
    (me : Name) (s : Statements) (t : local.Statements) (r : Option Culprit) → me ≡ nobody →
    t ≡ outlined None s → Judged (By me) (local_spots.spots [] t) r → Judged At (spots [] s) r
over_role At By same me s t r is e j =
    over At (By nobody) same s t r e (subst (λ (role : Name). Judged (By role) (local_spots.spots [] t) r) is j)
