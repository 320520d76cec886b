-- What roles that play a global protocol have said to each other when they rest is a conversation of it.
use Rattle.std.specs.Prelude.{◌≡◌, ◌≢◌, ℕ, List, [], ◌∷◌, map, Some, Contains, slice_get}
use Rattle.mg_text.specs.Call.{Name}
use Rattle.mg_text.specs.declared.event.Ending.TheVariants as endings
use Rattle.mg_text.specs.declared.event.Sent.{Sent}
use Rattle.scr_tree.specs.Protocol.{Message}
use Rattle.scr_tree.specs.Tree.{LocalTree}
use Rattle.scr_global.specs.Global.{Passing, Global}
use Rattle.scr_global.specs.Alone.{Finished}
use Rattle.scr_global.specs.Points.{Point, start, Goes, Complete}
use Rattle.scr_global.specs.Systems.{Parcel, parcel, System}
use Rattle.scr_global.specs.Laws.{named, IsReached}
use Rattle.scr_faithful.specs.Faithful.{CanEnd, CanDoRest, acts_on}
use Rattle.scr_faithful.specs.Guarded.{IsGuarded}
use Rattle.scr_faithful.specs.Heard.{NoneIsForgotten, CanDoMore}
use Rattle.ts_tree.specs.Typestate.{Typestate}
use Rattle.stm_acts.specs.Acts.{Deed, Moved, Looked, unnumbered, kind_of}
use Rattle.jv_meaning.specs.Program.{Sources}
use Rattle.vm_model.specs.Messages.{on_way}
use Rattle.vm_model.specs.Program.{Program}
use Rattle.vm_world_law.specs.declared.role.RoleMain.{RoleMain}
use Rattle.vm_world_law.specs.World.{Over, Role, World, turns, IsBegun, events_of, Rests}
use Rattle.stm_acts.specs.Ends.{deeds}
use Rattle.fit_law.specs.Fit.{IsCast, AreMeant}

-- the messages among deeds; looks are left out
abbrev pub passed : List Deed → List Message
passed [] = []
passed (Moved m ∷ ds) = m ∷ passed ds
passed (Looked peer label ∷ ds) = passed ds

-- what a message is in a configuration: its label, and the kind of what it carries
abbrev pub parcel_of : Sent → Parcel
parcel_of m = parcel m.label (kind_of m.payload)

-- What the roles have done, with the messages on their way, is a configuration that steps of the protocols reach from the start.
pub record IsConfiguration (roles : List Name) (locals : Name → LocalTree) (mains : List RoleMain) (w : World) : Type 0 where
  pub system : System
  pub reached : IsReached roles locals system
  -- on the way each role does what it has done, the numbers of choices aside
  pub done : (r : ℕ) (main : RoleMain) → slice_get mains r ≡ Some main →
      deeds (events_of r w.events) ≡ map unnumbered (acts_on reached main.role)
  -- the messages from each role to each other one are those that were sent and not yet taken
  pub lists : (from to : ℕ) (sender receiver : RoleMain) → slice_get mains from ≡ Some sender → slice_get mains to ≡ Some receiver →
      system.lists sender.role receiver.role ≡ map parcel_of (on_way w.messages from to)

-- each role is at the end of its protocol
abbrev pub IsFinished : List Name → System → Type 0
IsFinished roles c = (me : Name) → Contains roles me → Finished (c.at me)

-- In a complete conversation of the global protocol, each role has sent and taken the messages that name it, in their order, and no others.
abbrev pub IsConversation : Global → List RoleMain → World → Type 0
IsConversation g mains w =
    (messages : List Passing) × Complete g messages
    × ((r : ℕ) (main : RoleMain) → slice_get mains r ≡ Some main → passed (deeds (events_of r w.events)) ≡ named main.role messages)

-- In a complete conversation, each role has sent and taken the first of the messages that name it, and can do the others from where it
-- stands in the configuration that the world is.
abbrev pub IsPartOfConversation : List Name → (Name → LocalTree) → Global → List RoleMain → World → Type 0
IsPartOfConversation roles locals g mains w =
    (c : IsConfiguration roles locals mains w) × (messages : List Passing) × Complete g messages
    × ((r : ℕ) (main : RoleMain) → slice_get mains r ≡ Some main →
    CanDoRest (c.system.at main.role) (passed (deeds (events_of r w.events))) (named main.role messages))

-- The same in a conversation that needn't come to an end.
abbrev pub IsPartOfGoing : List Name → (Name → LocalTree) → Global → List RoleMain → World → Type 0
IsPartOfGoing roles locals g mains w =
    (c : IsConfiguration roles locals mains w) × (messages : List Passing) × (point : Point) × Goes (start g) messages point
    × ((r : ℕ) (main : RoleMain) → slice_get mains r ≡ Some main →
    CanDoMore (c.system.at main.role) (passed (deeds (events_of r w.events))) (named main.role messages))

-- After every list of turns the world is such a configuration.
abbrev pub TurnsAreConfigurations : Type 0
TurnsAreConfigurations =
    (j : Sources) (typestates : List Typestate) (roles : List Name) (g : Global) (locals : Name → LocalTree) (mains : List RoleMain)
    → IsCast j typestates roles g locals mains →
    (p : Program) (first : World) → IsBegun p mains first → ((taken : List ℕ) → AreMeant j mains p (turns p first taken)) →
    (taken : List ℕ) → IsConfiguration roles locals mains (turns p first taken)

-- Where it rests, and no role ended by a zero divisor, each role has done a complete run of its protocol.
abbrev pub RestIsFinished : Type 0
RestIsFinished =
    (j : Sources) (typestates : List Typestate) (roles : List Name) (g : Global) (locals : Name → LocalTree) (mains : List RoleMain)
    → IsCast j typestates roles g locals mains →
    (p : Program) (first : World) → IsBegun p mains first → ((taken : List ℕ) → AreMeant j mains p (turns p first taken)) →
    (taken : List ℕ) → Rests p (turns p first taken) →
    ((r : ℕ) (role : Role) → slice_get (turns p first taken).roles r ≡ Some role → role.state ≢ Over endings.Zero) →
    (c : IsConfiguration roles locals mains (turns p first taken)) × IsFinished roles c.system

-- Where the world rests, and no role ended by a zero divisor, what the roles have said is a complete conversation of the global protocol.
abbrev pub RestIsConversation : Type 0
RestIsConversation =
    (j : Sources) (typestates : List Typestate) (roles : List Name) (g : Global) (locals : Name → LocalTree) (mains : List RoleMain)
    → IsCast j typestates roles g locals mains → IsGuarded g →
    (p : Program) (first : World) → IsBegun p mains first → ((taken : List ℕ) → AreMeant j mains p (turns p first taken)) →
    (taken : List ℕ) → Rests p (turns p first taken) →
    ((r : ℕ) (role : Role) → slice_get (turns p first taken).roles r ≡ Some role → role.state ≢ Over endings.Zero) →
    IsConversation g mains (turns p first taken)

-- Where each conversation of the global protocol can be brought to an end, what they have said is after each list of turns part of a
-- complete one.
abbrev pub TurnsAreInConversation : Type 0
TurnsAreInConversation =
    (j : Sources) (typestates : List Typestate) (roles : List Name) (g : Global) (locals : Name → LocalTree) (mains : List RoleMain)
    → IsCast j typestates roles g locals mains → CanEnd g →
    (p : Program) (first : World) → IsBegun p mains first → ((taken : List ℕ) → AreMeant j mains p (turns p first taken)) →
    (taken : List ℕ) → IsPartOfConversation roles locals g mains (turns p first taken)

-- Where no role is forgotten, it is part of a conversation that needn't come to an end.
abbrev pub TurnsGoOnInConversation : Type 0
TurnsGoOnInConversation =
    (j : Sources) (typestates : List Typestate) (roles : List Name) (g : Global) (locals : Name → LocalTree) (mains : List RoleMain)
    → IsCast j typestates roles g locals mains → NoneIsForgotten roles g locals →
    (p : Program) (first : World) → IsBegun p mains first → ((taken : List ℕ) → AreMeant j mains p (turns p first taken)) →
    (taken : List ℕ) → IsPartOfGoing roles locals g mains (turns p first taken)
