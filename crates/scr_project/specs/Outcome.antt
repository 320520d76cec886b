-- What projecting a global protocol for a role gives.
use Rattle.std.specs.Prelude.{◌≡◌, ◌⊎◌, List, [], ◌∷◌, Option, Some, None, option_map, Result, Ok, Err}
use Rattle.mg_text.specs.Call.{Name}
use Rattle.mg_text.specs.Places.{start_of}
use Rattle.mg_text.specs.declared.place.Place.{Place}
use Rattle.mg_read.specs.Culprit.{Culprit, culprit}
use Rattle.mg_read.specs.First.{Judged, FirstOf}
use Rattle.scr_tree.specs.declared.condition.Condition.{Condition}
use Rattle.scr_tree.specs.declared.condition.Condition.TheVariants as conditions
use Rattle.scr_tree.specs.declared.local.Local.{Local}
use Rattle.scr_tree.specs.Faults.{Of}
use Rattle.scr_tree.specs.Local.{tree_of}
use Rattle.scr_tree.specs.Tree.{LocalTree, Statements}
use Rattle.scr_read.specs.Outcome.{Refused, fault_answer as scr_answer}
use Rattle.scr_read.specs.Outcome as scr
use Rattle.scr_read.specs.Parts.{parts}
use Rattle.scr_global.specs.Conditions.{NotMergeable as IsNotMergeable}
use Rattle.scr_global.specs.Spots.{spots}
use Rattle.scr_global.specs.Texts.{projected}
use Rattle.scr_global_tree.specs.Tree.{GlobalTree}
use Rattle.scr_project.specs.declared.fault.ProjectFault.{ProjectFault}
use Rattle.scr_project.specs.declared.fault.ProjectFault.TheVariants as faults

-- the local protocol of a role that does this
abbrev pub projection_of : GlobalTree → Name → Statements → LocalTree
projection_of g me body = record { file = g.file; name = g.name; me = me; roles = g.roles; body = body; others = [] }

-- the conditions that what a role does may fail to meet, in the order of their numbers
abbrev pub open_conditions : List Condition
open_conditions =
    conditions.Unguarded ∷ conditions.Unreachable ∷ conditions.BranchStart ∷ conditions.MixedChoice ∷ conditions.SameLabel
    ∷ conditions.ReservedLabel ∷ conditions.NameClash ∷ conditions.TooManyStates ∷ []

-- the first of them that a local protocol doesn't meet, or none
abbrev pub IsOpenFault : LocalTree → Option (Condition × Culprit) → Type 0
IsOpenFault t = FirstOf (Of (parts t)) open_conditions

-- what is answered, want of memory aside
pub data Answer : Type 0 where
  Protocol : LocalTree → Answer
  NotMergeable : Place → (role : Name) → Answer
  Unprojected : Place → (role : Name) → scr.Answer → Answer

pub data Outcome (g : GlobalTree) (me : Name) : Answer → Type 0 where
  -- some choice can't be merged: the first one that has no projection, though each of its branches has one
  not_mergeable : {place : Place} {name : Name} → projected me g.body ≡ None → Judged (IsNotMergeable me) (spots [] g.body)
      (Some (culprit place name))
      → Outcome g me (NotMergeable place name)
  -- there is a projection, which doesn't meet a condition
  unprojected : {body : Statements} {condition : Condition} {place : Place} {name : Name} → projected me g.body ≡ Some body
      → IsOpenFault (projection_of g me body) (Some (condition, culprit place name))
      → Outcome g me (Unprojected (start_of g.file) me (Refused condition place name))
  -- there is one that meets all
  found : {body : Statements} → projected me g.body ≡ Some body → IsOpenFault (projection_of g me body) None
      → Outcome g me (Protocol (projection_of g me body))

-- what a fault says; want of memory says nothing of the protocol
abbrev pub fault_answer : ProjectFault → Option Answer
fault_answer (faults.NotMergeable place name) = Some (NotMergeable place name)
fault_answer (faults.Unprojected place name fault) = option_map (Unprojected place name) (scr_answer fault)
fault_answer faults.Memory = None

-- what a call answered
abbrev pub answer_of : Result Local ProjectFault → Option Answer
answer_of (Ok local) = Some (Protocol (tree_of local))
answer_of (Err fault) = fault_answer fault

-- this was answered, or memory ran out
abbrev pub IsAnswered : Answer → Result Local ProjectFault → Type 0
IsAnswered answer result = (answer_of result ≡ Some answer) ⊎ (result ≡ Err faults.Memory)
