-- What the parts of the layout do.
use Rattle.std.proofs.Common.{◌≡◌, ℕ, suc, List, [], ◌∷◌, ◌++◌, length, Some, None, refl, Bool, true, false, if◌then◌else◌}
use Rattle.std.specs.Prelude.{slice_set}
use Rattle.scr_tree.specs.declared.syntax.Message.{Message as Said}
use Rattle.scr_tree.specs.Protocol.{Protocol, Done, ChoiceHere, ChoiceThere, Rec, Continue, Do, Branches, NoMore, Branch}
use Rattle.scr_tree.specs.Steps.{Position}
use Rattle.scr_trace.specs.declared.arrow.Hop.TheVariants as hops
use Rattle.scr_trace.specs.Positions.{states_here, states_behind, states_there, states_from}
use Rattle.scr_trace.specs.inner.Laying.{Work, Gathered, said, opened, closed, chosen, joined}

-- the states in the branches of a choice, at self or elsewhere, and those of one branch
abbrev pub within : Bool → Position → Branches → List Position
within true around bs = states_here around bs
within false around bs = states_there around bs

abbrev pub first_in : Bool → Position → Protocol → List Position
first_in true around b = states_behind around b
first_in false around b = states_from around b

pub within-Branch : (self : Bool) (around : Position) (b : Protocol) (more : Branches) → within self around (Branch b more)
    ≡ first_in self around b ++ within self around more
within-Branch true around b more = refl
within-Branch false around b more = refl

pub within-NoMore : (self : Bool) (around : Position) → within self around NoMore ≡ []
within-NoMore true around = refl
within-NoMore false around = refl

-- a choice that stands first in a branch is none
pub first-choice : (self b : Bool) (around : Position) (x z : Branches) (y r : Protocol) (n : ℕ) →
    first_in self around (if b then ChoiceHere x y else ChoiceThere n z r) ≡ []
first-choice true true around x z y r n = refl
first-choice true false around x z y r n = refl
first-choice false true around x z y r n = refl
first-choice false false around x z y r n = refl

pub first-rec : (self : Bool) (around : Position) (name : _) (x y : Protocol) → first_in self around (Rec name x y) ≡ []
first-rec true around name x y = refl
first-rec false around name x y = refl

pub first-continue : (self : Bool) (around : Position) (name : _) (x : Protocol) → first_in self around (Continue name x) ≡ []
first-continue true around name x = refl
first-continue false around name x = refl

pub first-do : (self : Bool) (around : Position) (name : _) (x : Protocol) → first_in self around (Do name x) ≡ []
first-do true around name x = refl
first-do false around name x = refl

pub first-done : (self : Bool) (around : Position) → first_in self around Done ≡ []
first-done true around = refl
first-done false around = refl

pub said_cells : (m : Said) (w : Work) → (said m w).cells ≡ record { number = None; drafts = record { message = m; to = w.next } ∷ [] } ∷
    w.cells
unfolding said
said_cells m w = refl

pub said_next : (m : Said) (w : Work) → (said m w).next ≡ hops.State (suc (length w.cells))
unfolding said
said_next m w = refl

pub said_choices : (m : Said) (w : Work) → (said m w).choices ≡ w.choices
unfolding said
said_choices m w = refl

pub said_loops : (m : Said) (w : Work) → (said m w).loops ≡ w.loops
unfolding said
said_loops m w = refl

pub opened_cells : (w : Work) → (opened w).cells ≡ w.cells
unfolding opened
opened_cells w = refl

pub opened_next : (w : Work) → (opened w).next ≡ w.next
unfolding opened
opened_next w = refl

pub opened_choices : (w : Work) → (opened w).choices ≡ w.choices
unfolding opened
opened_choices w = refl

pub opened_loops : (w : Work) → (opened w).loops ≡ w.loops ++ 0 ∷ []
unfolding opened
opened_loops w = refl

pub closed_cells : (i : ℕ) (w : Work) → (closed i w).cells ≡ w.cells
unfolding closed
closed_cells i w = refl

pub closed_next : (i : ℕ) (w : Work) → (closed i w).next ≡ w.next
unfolding closed
closed_next i w = refl

pub closed_choices : (i : ℕ) (w : Work) → (closed i w).choices ≡ w.choices
unfolding closed
closed_choices i w = refl

pub closed_loops : (i : ℕ) (w : Work) → (closed i w).loops ≡ slice_set w.loops i (length w.cells)
unfolding closed
closed_loops i w = refl

pub chosen_cells : (self : Bool) (g : Gathered) → (chosen self g).cells
    ≡ record { number = if self then None else Some g.work.choices; drafts = g.drafts } ∷ g.work.cells
unfolding chosen
chosen_cells self g = refl

pub chosen_next : (self : Bool) (g : Gathered) → (chosen self g).next ≡ hops.State (suc (length g.work.cells))
unfolding chosen
chosen_next self g = refl

pub chosen_choices : (self : Bool) (g : Gathered) → (chosen self g).choices ≡ (if self then g.work.choices else suc g.work.choices)
unfolding chosen
chosen_choices self g = refl

pub chosen_loops : (self : Bool) (g : Gathered) → (chosen self g).loops ≡ g.work.loops
unfolding chosen
chosen_loops self g = refl

pub joined_here : (m : Said) (g : Gathered) → joined true m g ≡ record {
  work = g.work;
  drafts =
      record { message = m; to = g.work.next } ∷ g.drafts;
}
unfolding joined
joined_here m g = refl

pub joined_there : (m : Said) (g : Gathered) → joined false m g ≡ record {
  work = said m g.work;
  drafts =
      record { message = m; to = hops.State (suc (length g.work.cells)) } ∷ g.drafts;
}
unfolding joined
joined_there m g = refl
