-- The messages on their way from one role, as a map of its queues has them.
use Rattle.std.specs.Prelude.{◌≡◌, ◌≢◌, ℕ, zero, suc, List, [], ◌∷◌, Option, Some, None, nat_eq}
use Rattle.std.specs.HashMap.{HashMap, get}

-- the messages of a queue, if there is one
abbrev pub list_in : {Q X : Type 0} → (Q → List X) → Option Q → List X
list_in messages None = []
list_in messages (Some queue) = messages queue

-- the messages to a role
abbrev pub list_to : {Q X S : Type 0} → (Q → List X) → HashMap ℕ Q S → ℕ → List X
list_to messages queues to = list_in messages (get nat_eq queues to)

-- the lists to the roles below a number
abbrev pub lists_below : {X : Type 0} → ℕ → (ℕ → List X) → List (List X)
lists_below zero lists = []
lists_below (suc n) lists = lists zero ∷ lists_below n (λ to. lists (suc to))

-- the messages to a role are others, and those to every other role as they were
pub record ChangesList {X : Type 0} (old new : ℕ → List X) (to : ℕ) (list : List X) : Type 0 where
  pub there : new to ≡ list
  pub others : (role : ℕ) → role ≢ to → new role ≡ old role
