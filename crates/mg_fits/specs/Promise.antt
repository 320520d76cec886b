-- What is promised of a run whose roles fit a global protocol.
use Rattle.std.specs.Prelude.{◌≡◌, ◌⊎◌, ℕ, List, Some, slice_get}
use Rattle.mg_text.specs.Call.{Name}
use Rattle.scr_tree.specs.Tree.{LocalTree}
use Rattle.scr_global.specs.Global.{Global}
use Rattle.scr_faithful.specs.Faithful.{CanEnd}
use Rattle.jv_meaning.specs.Program.{Sources}
use Rattle.vm_model.specs.Program.{Program}
use Rattle.vm_world_law.specs.declared.role.RoleMain.{RoleMain}
use Rattle.vm_world_law.specs.Turns.{IsRun, counted}
use Rattle.vm_world_law.specs.World.{Role, World, turns, Rests}
use Rattle.scr_faithful.specs.Heard.{NoneIsForgotten}
use Rattle.fit_law.specs.Fit.{IsWell, EachActsByOne}
use Rattle.fit_law.specs.Conversed.{IsConfiguration, IsPartOfConversation, IsPartOfGoing}
use Rattle.fit_law.specs.Play.{NoZero, ZeroIn, HasEndedWell}

-- these sources, the roles of a global protocol with their local protocols, and the roles that run with their classes
module _ (j : Sources) (roles : List Name) (g : Global) (locals : Name → LocalTree) (mains : List RoleMain) (program : Program) where
  -- At a moment.
  pub record NoRoleIsStuck (w : World) : Type 0 where
    -- each role goes on, has returned, or has ended by a zero divisor: by no mismatch, no missing peer, no null and no wrong code
    pub well : (r : ℕ) (role : Role) → slice_get w.roles r ≡ Some role → IsWell role.state
    -- where the world rests and none has ended by a zero divisor, all is complete
    pub at_rest : Rests program w → NoZero w → HasEndedWell j roles g locals mains w
    -- what the roles have done, with the messages on their way, is a configuration that steps of their protocols reach
    pub configuration : IsConfiguration roles locals mains w
    -- where each conversation can be brought to an end, what was said so far is part of a complete one, and each role can say the rest
    pub part : CanEnd g → IsPartOfConversation roles locals g mains w
    -- where they can't, but no role is forgotten, it is part of one that needn't come to an end, and each role can do more
    pub going : NoneIsForgotten roles g locals → IsPartOfGoing roles locals g mains w
    -- one object has done all that a role has sent, looked at and taken
    pub by_one : EachActsByOne roles mains w

  -- After every list of turns; and a run in an order of turns up to a limit ends well, or some role has ended by a zero divisor, or the
  -- limit is reached before the world rests.
  pub record NoRoleGetsStuck (first : World) : Type 0 where
    pub always : (taken : List ℕ) → NoRoleIsStuck (turns program first taken)
    pub runs : (order : List ℕ) (limit : ℕ) (last : World) → IsRun program first order limit last →
        HasEndedWell j roles g locals mains last ⊎ (ZeroIn last ⊎ ((Rests program last → ⊥) × (counted last ≡ limit)))
