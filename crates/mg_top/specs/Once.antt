-- What a command gives is one thing.
use Rattle.std.specs.Prelude.{◌≡◌, ◌≢◌, ◌⊎◌, ℕ, List, [], ◌∷◌}
use Rattle.mg_words.specs.Words.{Word, Command}
use Rattle.mg_refusal.specs.Refusals.{Refusal}
use Rattle.mg_faults.specs.Faults.{AreAllAlike}
use Rattle.mg_delivery.specs.Lines.{refusal_lines}
use Rattle.mg_delivery.specs.declared.status.Status.{Status}
use Rattle.mg_delivery.specs.declared.status.Status.TheVariants as statuses
use Rattle.mg_delivery.specs.declared.delivery.Action.{Action}
use Rattle.mg_delivery.specs.declared.delivery.Action.TheVariants.{Say}
use Rattle.mg_top.specs.Commands.{Yields}

-- two texts of lines of refusals that are alike, one by one: but for the places of Syntax, which are left open
pub record SaySyntax (text other : List ℕ) : Type 0 where
  pub names : List Word
  pub rs : List Refusal
  pub qs : List Refusal
  pub alike : AreAllAlike rs qs
  pub says : text ≡ refusal_lines names rs
  pub also : other ≡ refusal_lines names qs

-- the same actions, but for the places of Syntax in what is said
abbrev pub SameActions : List Action → List Action → Type 0
SameActions a b = (a ≡ b) ⊎ ((text other : List ℕ) × (a ≡ Say text ∷ []) × (b ≡ Say other ∷ []) × SaySyntax text other)

-- Of the same contents a command gives one status, and the same actions.
pub record OneYield (a b : List Action) (m n : Status) : Type 0 where
  pub status : m ≡ n
  pub actions : SameActions a b
  pub done : m ≢ statuses.Refused → a ≡ b

abbrev pub YieldsOnce : Type 0
YieldsOnce = (command : Command) (contents : List (List ℕ)) (a b : List Action) (m n : Status) →
    Yields command contents a m → Yields command contents b n → OneYield a b m n
