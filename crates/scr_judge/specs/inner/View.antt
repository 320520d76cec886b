-- What the program's values say.
use Rattle.std.specs.Global.{Global}
use Rattle.std.specs.Prelude.{ℕ, Vec, map, Result, Ok, Err, List, [], ◌∷◌, Option, Some, None, option_map}
use Rattle.std.specs.Borrow.{Bor}
use Rattle.mg_text.specs.Call.{Name}
use Rattle.mg_read.specs.Culprit.{Culprit, culprit}
use Rattle.scr_tree.specs.Meaning.{message_of}
use Rattle.scr_tree.specs.Actions.{Action, Deed, Moves, Looks}
use Rattle.scr_judge.specs.declared.actions.Action.{Action as CodeAction}
use Rattle.scr_judge.specs.declared.actions.Deed.{Deed as CodeDeed}
use Rattle.scr_judge.specs.declared.actions.Deed.TheVariants as deeds
use Rattle.scr_judge.specs.declared.culprit.Named.{Named}
use Rattle.scr_judge.specs.declared.culprit.Culprit.{Culprit as Told}
use Rattle.scr_judge.specs.declared.guards.Names.{Names}
use Rattle.scr_judge.specs.declared.opening.First.{First as KeptFirst}
use Rattle.scr_judge.specs.declared.opening.First.TheVariants as firsts
use Rattle.scr_judge.specs.inner.Gone.{First, Neither, Deed as IsDeed, Goes}
use Rattle.scr_judge.specs.declared.guards.Names.TheVariants.{Outside, Inside'}

abbrev pub names_of : Names → List Name
names_of Outside = []
names_of (Inside' name p around) = name.now ∷ names_of around

-- the name that is sought
abbrev pub goal_of : Option (Bor Name) → Option Name
goal_of goal = option_map (λ g. g.now) goal

-- names that are told
abbrev pub told_names : List (Bor Name) → List Name
told_names names = map (λ n. n.now) names

-- the choice whose branch begins
abbrev pub begins_of : Option (Bor Name) → Option Name
begins_of begins = option_map (λ at. at.now) begins

abbrev pub told : Told → Culprit
told c = culprit c.place c.name.now

abbrev pub culprit_of : Option Told → Option Culprit
culprit_of None = None
culprit_of (Some c) = Some (told c)

-- the culprit that a walk ended with
abbrev pub found : {X : Type 0} → Result X Told → Option Culprit
found (Ok x) = None
found (Err c) = Some (told c)

abbrev pub deed_of : CodeDeed → Deed
deed_of (deeds.Moves m) = Moves (message_of m.now)
deed_of (deeds.Looks n) = Looks n

abbrev pub act : CodeAction → Action
act a = record { place = a.place; call = a.call; deed = deed_of a.deed }

abbrev pub named_of : Option Named → Option Culprit
named_of None = None
named_of (Some n) = Some (culprit n.place n.name)

abbrev pub call_of : CodeAction → Name
call_of a = a.call

abbrev pub does : CodeAction → Deed
does a = deed_of a.deed

abbrev pub clashing : CodeAction → Culprit
clashing a = culprit a.place a.call

-- what comes first, as definitions speak of it
abbrev pub first_seen : KeptFirst → First
first_seen firsts.Neither = Neither
first_seen firsts.Deed = IsDeed
first_seen (firsts.Goes place) = Goes place

-- a graph, as the program has it
abbrev pub graph_of : List (Vec ℕ Global) → List (List ℕ)
graph_of targets = map (λ v. v.items) targets
