-- What one step of the search changes.
use Rattle.std.specs.Prelude.{◌≡◌, ℕ, ◌≤◌, Bool, true, false, List, Option, Contains}
use Rattle.cls_verify.specs.Typing.{Kinds, LeadsTo, Typing}
use Rattle.cls_kinds.specs.Stacks.{Grows}
use Rattle.cls_search.specs.declared.leading.Found.{Found}
use Rattle.cls_search.specs.Setting.{Setting}
use Rattle.cls_search.specs.Kept.{IsRight, table, waits, left}

abbrev pub KeepsLeads : (at later : ℕ → Option Kinds) → Type 0
KeepsLeads at later = (k : Kinds) (place : ℕ) → LeadsTo at k place → LeadsTo later k place

-- what is kept is raised, and each place that was raised waits
pub record Goes (s : Setting) (old new : Found) : Type 0 where
  pub right : IsRight s new
  pub grows : Grows old.stacks new.stacks
  pub keeps : KeepsLeads (table s old) (table s new)
  pub same : (place : ℕ) → waits new place ≡ false → (table s new place ≡ table s old place) × (waits old place ≡ false)
  pub less : left s new ≤ left s old

pub record Leads (s : Setting) (old new : Found) (k : Kinds) (place : ℕ) : Type 0 where
  pub goes : Goes s old new
  pub leads : LeadsTo (table s new) k place

abbrev pub Untypable : Setting → Type 0
Untypable s = Typing s.p s.class s.method s.m → ⊥

-- true: what leads there is taken in; false: there is no typing
abbrev pub LeadsOr : Setting → (old new : Found) → Kinds → ℕ → Bool → Type 0
LeadsOr s old new k place true = Leads s old new k place
LeadsOr s old new k place false = Untypable s

-- what leads to each of these places
pub record LeadsAll (s : Setting) (old new : Found) (k : Kinds) (places : List ℕ) : Type 0 where
  pub goes : Goes s old new
  pub leads : (next : ℕ) → Contains places next → LeadsTo (table s new) k next

abbrev pub LeadsAllOr : Setting → (old new : Found) → Kinds → List ℕ → Bool → Type 0
LeadsAllOr s old new k places true = LeadsAll s old new k places
LeadsAllOr s old new k places false = Untypable s

-- each typing is led to at a place
abbrev pub IsBelow : Setting → Kinds → ℕ → Type 0
IsBelow s k place = (t : Typing s.p s.class s.method s.m) → LeadsTo t.at k place
