-- A run of several roles: turns in an order that is repeated as a cycle, up to a number of instructions.
use Rattle.std.specs.Prelude.{◌≡◌, ◌⊎◌, ◌<◌, ◌≤◌, ◌+◌, ◌%◌, ℕ, zero, suc, List, [], ◌∷◌, ◌++◌, length, get_or, Option, Some, None}
use Rattle.std.specs.Prelude.{slice_get, Bool, true, false, Contains}
use Rattle.std.specs.List.{list_any}
use Rattle.mg_text.specs.declared.event.Ending.TheVariants as endings
use Rattle.vm_model.specs.Program.{Program}
use Rattle.vm_world_law.specs.declared.stand.Stand.{Stand}
use Rattle.vm_world_law.specs.declared.stand.Stand.TheVariants as stands
use Rattle.vm_world_law.specs.World.{State, Runs, Over, Role, World, turn, turns, waits_in, name_of, IsFresh, IsStill, Rests}
use Rattle.vm_world_law.specs.Laws.{SameForAll}

-- the role of the turn of this number, counted from 0
abbrev pub role_of_turn : List ℕ → ℕ → ℕ
role_of_turn order k = get_or order (k % length order) 0

-- the roles of the first so many turns
abbrev pub first_turns : List ℕ → ℕ → List ℕ
first_turns order zero = []
first_turns order (suc k) = first_turns order k ++ role_of_turn order k ∷ []

-- the instructions that were counted, of all roles
abbrev pub all_counts : List Role → ℕ
all_counts [] = 0
all_counts (role ∷ roles) = role.count + all_counts roles

abbrev pub counted : World → ℕ
counted w = all_counts w.roles

-- where a run stops
abbrev pub StopsAt : Program → (limit : ℕ) → World → Type 0
StopsAt p limit w = Rests p w ⊎ (counted w ≡ limit)

-- Turns in this order, up to the first moment at which the world rests or so many instructions were counted, lead to a world.
pub record IsRun (p : Program) (first : World) (order : List ℕ) (limit : ℕ) (w : World) : Type 0 where
  pub taken : ℕ
  pub is : w ≡ turns p first (first_turns order taken)
  pub stops : StopsAt p limit w
  pub no_sooner : (k : ℕ) → k < taken → StopsAt p limit (turns p first (first_turns order k)) → ⊥

-- How a role stands.

abbrev pub waiting_for : World → Option ℕ → Stand
waiting_for w None = stands.Bound
waiting_for w (Some peer) = stands.Waits (name_of w peer)

abbrev pub stand_of : Program → World → (r : ℕ) → State → Stand
stand_of p w r (Over ending) = stands.Ended ending
stand_of p w r (Runs m) = waiting_for w (waits_in p w r (Runs m))

abbrev pub stands_from : Program → World → (r : ℕ) → List Role → List Stand
stands_from p w r [] = []
stands_from p w r (role ∷ roles) = stand_of p w r role.state ∷ stands_from p w (suc r) roles

abbrev pub stands_in : Program → World → List Stand
stands_in p w = stands_from p w 0 w.roles

abbrev pub is_bound : Stand → Bool
is_bound stands.Bound = true
is_bound _ = false

abbrev pub is_waiting : Stand → Bool
is_waiting (stands.Waits peer) = true
is_waiting _ = false

abbrev pub is_zero : Stand → Bool
is_zero (stands.Ended endings.Zero) = true
is_zero _ = false

-- it ended at a null, or because its code is wrong
abbrev pub is_broken : Stand → Bool
is_broken (stands.Ended endings.Null) = true
is_broken (stands.Ended (endings.Bad which)) = true
is_broken _ = false

-- it ended at a message, or without the peer
abbrev pub is_mismatch : Stand → Bool
is_mismatch (stands.Ended (endings.Mismatch peer found)) = true
is_mismatch (stands.Ended (endings.NoPeer peer)) = true
is_mismatch _ = false

-- Laws.

-- a role that has ended or waits, where there is one of this number
abbrev pub StillAt : Program → World → ℕ → Type 0
StillAt p w r = (role : Role) → slice_get w.roles r ≡ Some role → IsStill p w r role.state

-- One turn or none.

-- whether a role has ended
abbrev pub is_over : State → Bool
is_over (Runs m) = false
is_over (Over ending) = true

abbrev pub over_at : Option Role → Bool
over_at None = false
over_at (Some role) = is_over role.state

abbrev pub over_in : World → ℕ → Bool
over_in w r = over_at (slice_get w.roles r)

-- One turn, or none where the role has ended: it found its role still, or it counted.
abbrev pub Advances : Program → World → ℕ → World → Bool → Type 0
Advances p w r v false = StillAt p w r × (v ≡ w)
Advances p w r v true = (v ≡ turn p w r) × (counted v ≡ suc (counted w)) × (Rests p w → ⊥)

-- A turn finds its role still and changes nothing, or it counts one instruction.
abbrev pub TurnsCount : Type 0
TurnsCount = (p : Program) (w : World) (r : ℕ) → (turn p w r ≡ w) × StillAt p w r ⊎ (counted (turn p w r) ≡ suc (counted w))

-- in each order that names every role there is a run
abbrev pub RunsStop : Type 0
RunsStop = (p : Program) (first : World) (order : List ℕ) → ((r : ℕ) → r < length first.roles → Contains order r) → (limit : ℕ) →
    counted first ≤ limit → (w : World) × IsRun p first order limit w

-- Two runs, in whatever orders and with whatever limits, that end at rest come to the same, and their roles stand alike.
abbrev pub OrdersAgree : Type 0
OrdersAgree = (p : Program) (first : World) → IsFresh first → (order other : List ℕ) (limit bound : ℕ) (v w : World) →
    IsRun p first order limit v →
    IsRun p first other bound w → Rests p v → Rests p w → SameForAll v w × (stands_in p v ≡ stands_in p w)

-- there is one run
abbrev pub OneRun : Type 0
OneRun = (p : Program) (first : World) (order : List ℕ) (limit : ℕ) (v w : World) → IsRun p first order limit v →
    IsRun p first order limit w → v ≡ w

-- Where as many turns in a row as the order is long found their roles still, of an order that names each role, the world rests.
abbrev pub StillRoundsRest : Type 0
StillRoundsRest = (p : Program) (w : World) (order : List ℕ) → ((r : ℕ) → r < length w.roles → Contains order r) → (from : ℕ) →
    ((k : ℕ) → from ≤ k → k < from + length order → StillAt p w (role_of_turn order k)) → Rests p w

-- a world rests where no role stands at the bound
abbrev pub RestIsNoBound : Type 0
RestIsNoBound = (p : Program) (w : World) → (Rests p w → list_any is_bound (stands_in p w) ≡ false)
    × (list_any is_bound (stands_in p w) ≡ false → Rests p w)
