-- The automaton of a protocol: its states in the order of the text, each with its steps and where they lead.
use Rattle.std.specs.Prelude.{◌≡◌, List, [], ◌∷◌}
use Rattle.scr_tree.specs.Protocol.{Parts}
use Rattle.scr_tree.specs.Steps.{Act, Position, start}
use Rattle.scr_trace.specs.declared.standing.Standing.{Standing}
use Rattle.scr_trace.specs.Positions.{state_positions, ComesTo}
use Rattle.scr_trace.specs.Onward.{Onward, steps_at}

-- what is seen of a step, and where it leads
pub record Edge : Type 0 where
  pub act : Act
  pub to : Standing

pub record Graph : Type 0 where
  pub initial : Standing
  pub states : List (List Edge)

-- the edge is this step
pub record IsStep (parts : Parts) (all : List Position) (step : Onward) (edge : Edge) : Type 0 where
  pub act : edge.act ≡ step.act
  pub to : ComesTo parts all step.to edge.to

-- the edges are these steps, one after another
abbrev pub AreSteps : Parts → List Position → List Onward → List Edge → Type 0
AreSteps parts all [] [] = Unit {0}
AreSteps parts all (step ∷ steps) (edge ∷ edges) = IsStep parts all step edge × AreSteps parts all steps edges
AreSteps parts all _ _ = ⊥

-- the states stand at these positions, one after another
abbrev pub AreStates : Parts → List Position → List Position → List (List Edge) → Type 0
AreStates parts all [] [] = Unit {0}
AreStates parts all (position ∷ positions) (edges ∷ states) = AreSteps parts all (steps_at position) edges
    × AreStates parts all positions states
AreStates parts all _ _ = ⊥

-- the automaton of a protocol
pub record Automates (parts : Parts) (g : Graph) : Type 0 where
  pub initial : ComesTo parts (state_positions parts) (start parts) g.initial
  pub states : AreStates parts (state_positions parts) (state_positions parts) g.states
