-- Roles that play a global protocol never get stuck, by conditions on the sources alone.
use Rattle.std.specs.Prelude.{◌≡◌, ◌≢◌, ◌⊎◌, ◌++◌, ℕ, List, Some, Contains, slice_get}
use Rattle.mg_text.specs.Call.{Name}
use Rattle.mg_text.specs.declared.event.Ending.TheVariants as endings
use Rattle.scr_tree.specs.Meaning.{protocol_of}
use Rattle.scr_tree.specs.Tree.{LocalTree}
use Rattle.scr_tree.specs.Valid.{IsValid}
use Rattle.scr_faithful.specs.Faithful.{CanEnd}
use Rattle.scr_faithful.specs.Guarded.{IsGuarded}
use Rattle.scr_faithful.specs.Heard.{NoneIsForgotten}
use Rattle.scr_global.specs.Global.{Global}
use Rattle.ts_tree.specs.Typestate.{Typestate}
use Rattle.jv_values.specs.Values.{Inputs}
use Rattle.jv_meaning.specs.Meaning.{mean}
use Rattle.jv_meaning.specs.Program.{Sources}
use Rattle.stm_acts.specs.Held.{HoldsApi}
use Rattle.stm_acts.specs.Played.{HasRole}
use Rattle.vm_model.specs.Program.{Program}
use Rattle.vm_world_law.specs.declared.role.RoleMain.{RoleMain}
use Rattle.vm_world_law.specs.Turns.{IsRun, counted}
use Rattle.vm_world_law.specs.World.{Over, Role, World, turns, IsBegun, Rests}
use Rattle.stm_acts.specs.Calm.{OnlyMainsPlay, MainPlaysOne}
use Rattle.fit_law.specs.Conversed.{IsConfiguration, IsFinished, IsConversation, IsPartOfConversation, IsPartOfGoing}
use Rattle.fit_law.specs.Fit.{AreLocals, IsHad, KeepsTo, AreMeant, IsWell, IsComplete, EachActsByOne}

-- The sources play a global protocol: each of its roles has what is generated of its projection, and the `main` of its class makes one
-- object of the generated class.
pub record PlayIn (j : Sources) (typestates : List Typestate) (roles : List Name) (g : Global) (locals : Name → LocalTree)
    (mains : List RoleMain) : Type 0 where
  pub locals_are : AreLocals roles g locals
  pub had : (me : Name) → Contains roles me → IsHad j typestates (locals me)
  -- as that of each text that meets the conditions is
  pub guarded : IsGuarded g
  -- roles of other protocols, which nobody plays
  pub idle : List Name
  pub idle_had : (me : Name) → Contains idle me → HasRole j typestates me (protocol_of (locals me))
  -- each role is played, and no other
  pub played : (me : Name) → Contains roles me → (r : ℕ) × (main : RoleMain) × (slice_get mains r ≡ Some main) × (main.role ≡ me)
  pub known : (r : ℕ) (main : RoleMain) → slice_get mains r ≡ Some main → Contains roles main.role
  pub quiet : OnlyMainsPlay j (roles ++ idle)
  pub makes : (r : ℕ) (main : RoleMain) → slice_get mains r ≡ Some main → MainPlaysOne j (roles ++ idle) main.role main.class

-- no meaning of a role dereferences a null, and each keeps to the typestates
abbrev pub AllKeep : Sources → List Typestate → List RoleMain → Type 0
AllKeep j typestates mains = (r : ℕ) (main : RoleMain) → slice_get mains r ≡ Some main → (inputs : Inputs) (budget : ℕ) →
    KeepsTo j typestates (mean j main.class inputs budget)

-- no role has ended by a zero divisor
abbrev pub NoZero : World → Type 0
NoZero w = (r : ℕ) (role : Role) → slice_get w.roles r ≡ Some role → role.state ≢ Over endings.Zero

-- All is complete: every role has returned, every list is empty, each role has acted by one object, which is at the end of its protocol,
-- what each role has done is a complete run of its protocol, and what all have said is a complete conversation of the global protocol.
pub record HasEndedWell (j : Sources) (roles : List Name) (g : Global) (locals : Name → LocalTree) (mains : List RoleMain) (w : World) :
    Type 0
  where
    pub complete : IsComplete j roles locals mains w
    pub runs : (c : IsConfiguration roles locals mains w) × IsFinished roles c.system
    pub conversation : IsConversation g mains w

-- After every list of turns no role has ended but by its return or a zero divisor. At rest, where none ended by a zero divisor, all is
-- complete.
abbrev pub NoneGetsStuckIn : Type 0
NoneGetsStuckIn =
    (j : Sources) (typestates : List Typestate) (roles : List Name) (g : Global) (locals : Name → LocalTree) (mains : List RoleMain)
    → PlayIn j typestates roles g locals mains → AllKeep j typestates mains →
    (p : Program) (first : World) → IsBegun p mains first → ((taken : List ℕ) → AreMeant j mains p (turns p first taken)) →
    (taken : List ℕ) →
    ((r : ℕ) (role : Role) → slice_get (turns p first taken).roles r ≡ Some role → IsWell role.state)
    × (Rests p (turns p first taken) → NoZero (turns p first taken) → HasEndedWell j roles g locals mains (turns p first taken))

-- a program that holds the generated files has what is generated
abbrev pub ApiIsHad : Type 0
ApiIsHad = (j : Sources) (typestates : List Typestate) (local : LocalTree) → ∥ IsValid local ∥₁ → HoldsApi j typestates local →
    IsHad j typestates local

-- Some role has ended by a zero divisor.
pub record ZeroIn (w : World) : Type 0 where
  pub number : ℕ
  pub role : Role
  pub there : slice_get w.roles number ≡ Some role
  pub zero : role.state ≡ Over endings.Zero

-- A run in an order of turns up to a limit ends with all complete; or some role has ended by a zero divisor; or the limit is reached before
-- the world rests.
abbrev pub RunsEndWell : Type 0
RunsEndWell =
    (j : Sources) (typestates : List Typestate) (roles : List Name) (g : Global) (locals : Name → LocalTree) (mains : List RoleMain)
    → PlayIn j typestates roles g locals mains → AllKeep j typestates mains →
    (p : Program) (first : World) → IsBegun p mains first → ((taken : List ℕ) → AreMeant j mains p (turns p first taken)) →
    (order : List ℕ) (limit : ℕ) (last : World) → IsRun p first order limit last →
    HasEndedWell j roles g locals mains last ⊎ (ZeroIn last ⊎ ((Rests p last → ⊥) × (counted last ≡ limit)))

-- Where each conversation of the global protocol can be brought to an end, what was said is at each moment part of a complete one.
abbrev pub TurnsConverse : Type 0
TurnsConverse =
    (j : Sources) (typestates : List Typestate) (roles : List Name) (g : Global) (locals : Name → LocalTree) (mains : List RoleMain)
    → PlayIn j typestates roles g locals mains → AllKeep j typestates mains → CanEnd g →
    (p : Program) (first : World) → IsBegun p mains first → ((taken : List ℕ) → AreMeant j mains p (turns p first taken)) →
    (taken : List ℕ) → IsPartOfConversation roles locals g mains (turns p first taken)

-- Where no role is forgotten, it is part of a conversation that needn't come to an end.
abbrev pub TurnsGoOn : Type 0
TurnsGoOn =
    (j : Sources) (typestates : List Typestate) (roles : List Name) (g : Global) (locals : Name → LocalTree) (mains : List RoleMain)
    → PlayIn j typestates roles g locals mains → AllKeep j typestates mains → NoneIsForgotten roles g locals →
    (p : Program) (first : World) → IsBegun p mains first → ((taken : List ℕ) → AreMeant j mains p (turns p first taken)) →
    (taken : List ℕ) → IsPartOfGoing roles locals g mains (turns p first taken)

-- What the roles have done, with the messages on their way, is at each moment a configuration that steps of their protocols reach.
abbrev pub TurnsAreReached : Type 0
TurnsAreReached =
    (j : Sources) (typestates : List Typestate) (roles : List Name) (g : Global) (locals : Name → LocalTree) (mains : List RoleMain)
    → PlayIn j typestates roles g locals mains → AllKeep j typestates mains →
    (p : Program) (first : World) → IsBegun p mains first → ((taken : List ℕ) → AreMeant j mains p (turns p first taken)) →
    (taken : List ℕ) → IsConfiguration roles locals mains (turns p first taken)

-- At each moment each role has acted by one object.
abbrev pub TurnsActByOne : Type 0
TurnsActByOne =
    (j : Sources) (typestates : List Typestate) (roles : List Name) (g : Global) (locals : Name → LocalTree) (mains : List RoleMain)
    → PlayIn j typestates roles g locals mains → AllKeep j typestates mains →
    (p : Program) (first : World) → IsBegun p mains first → ((taken : List ℕ) → AreMeant j mains p (turns p first taken)) →
    (taken : List ℕ) → EachActsByOne roles mains (turns p first taken)
