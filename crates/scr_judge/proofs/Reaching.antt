-- Walking with whether control comes here finds the first statement behind one that does not fall.
use Rattle.std.proofs.Common.{◌≡◌, Bool, true, false, List, [], ◌∷◌, Option, refl, sym, subst, ◌∙◌, true≢false}
use Rattle.mg_text.specs.Call.{Name}
use Rattle.scr_tree.specs.Tree.{Statements, Nothing, Says, Choice, Rec, Continue, Do, Branches, NoBranch, Branch}
use Rattle.mg_read.specs.First.{Judged, clean, here, later}
use Rattle.mg_read.proofs.Judging.{judged-append}
use Rattle.scr_tree.specs.Spots.{Past, Way, spot, spots, branch_spots}
use Rattle.mg_read.specs.Culprit.{Culprit}
use Rattle.scr_tree.specs.Control.{falls, some_falls}
use Rattle.scr_tree.specs.Conditions.{Unreachable}
use Rattle.scr_judge.specs.inner.Finding.{unreachable, unreachable_in, unreachable_behind}
use Rattle.scr_judge.proofs.Quiet.{and_true}

-- control comes here: no statement is at fault
pub record IsReached (way : Way) : Type 0 where
  pub fine : (ss : Statements) (c : Culprit) → Unreachable (spot way ss) c → ⊥

behind_falling : (s : Statements) (way : Way) → falls s ≡ true → IsReached (Past s ∷ way)
behind_falling s way e = record { fine = λ ss c x. true≢false (sym e ∙ x.3) }

-- behind a statement: what comes where it falls is given
behind_exact : (b : Bool) (s : Statements) (way : Way) (rest : Statements) → falls s ≡ b →
    (IsReached (Past s ∷ way) → Judged Unreachable (spots (Past s ∷ way) rest) (unreachable rest)) →
    Judged Unreachable (spots (Past s ∷ way) rest) (unreachable_behind b rest)
behind_exact true s way rest e go = go (behind_falling s way e)
behind_exact false s way Nothing e go = clean
behind_exact false s way (Says m rest) e go = here (_, refl, refl, e)
behind_exact false s way (Choice p at bs rest) e go = here (_, refl, refl, e)
behind_exact false s way (Rec p name body rest) e go = here (_, refl, refl, e)
behind_exact false s way (Continue p name rest) e go = here (_, refl, refl, e)
behind_exact false s way (Do p name rest) e go = here (_, refl, refl, e)

mutual
  pub reached_exact : (way : Way) (ss : Statements) → IsReached way → Judged Unreachable (spots way ss) (unreachable ss)
  reached_exact way Nothing h = clean
  reached_exact way (Says m rest) h = later (h.fine _) (reached_exact _ rest (behind_falling (Says m Nothing) way refl))
  reached_exact way (Choice p at bs rest) h =
      later (h.fine _) (judged-append (reached_exact_in way at [] bs) (behind_exact (some_falls bs) (Choice p at bs Nothing) way rest
      (and_true _) (reached_exact _ rest)))
  reached_exact way (Rec p name body rest) h =
      later (h.fine _) (judged-append (reached_exact _ body (record { fine = λ ss c x. x }))
      (behind_exact (falls body) (Rec p name body Nothing) way rest (and_true _) (reached_exact _ rest)))
  reached_exact way (Continue p name rest) h =
      later (h.fine _) (behind_exact false (Continue p name Nothing) way rest refl (reached_exact _ rest))
  reached_exact way (Do p name rest) h = later (h.fine _) (behind_exact false (Do p name Nothing) way rest refl (reached_exact _ rest))

  pub reached_exact_in : (way : Way) (at : Name) (earlier : List Statements) (bs : Branches) →
      Judged Unreachable (branch_spots way at earlier bs) (unreachable_in bs)
  reached_exact_in way at earlier NoBranch = clean
  reached_exact_in way at earlier (Branch b more) = judged-append (reached_exact _ b (record { fine = λ ss c x. x }))
      (reached_exact_in way at (b ∷ earlier) more)

-- what the walk over a whole text finds
pub first_unreachable : (ss : Statements) (r : Option Culprit) → r ≡ unreachable ss → Judged Unreachable (spots [] ss) r
first_unreachable ss r e = subst (Judged Unreachable (spots [] ss)) (sym e) (reached_exact [] ss (record { fine = λ ss c x. x }))
