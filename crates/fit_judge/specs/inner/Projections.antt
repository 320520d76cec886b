-- For private clauses: where the protocols of roles stand among the parts of files.
use Rattle.std.specs.Prelude.{◌≡◌, ℕ, List, Option, Some, None, slice_get, String, Contains}
use Rattle.std.specs.Borrow.{Bor}
use Rattle.std.specs.HashMap.{HashMap, get_by_text}
use Rattle.mg_text.specs.Call.{Name}
use Rattle.scr_tree.specs.Tree.{LocalTree}
use Rattle.scr_tree.specs.Local.{tree_of as local_of}
use Rattle.scr_tree.specs.declared.local.Local.{Local}
use Rattle.mg_sources.specs.Reading.{Part, Protocol}
use Rattle.mg_fits.specs.Parts.{protocols_in, roles_in}

-- the part at the number of a role is the protocol of the role, and each protocol has its number
pub record NumbersParts {A S : Type 0} (parts : List Part) (places : HashMap (String A) ℕ S) : Type 0 where
  pub right : (role : Name) (place : ℕ) → get_by_text places role ≡ Some place →
      (local : LocalTree) × (slice_get parts place ≡ Some (Protocol local)) × (local.me ≡ role)
  pub all : (place : ℕ) (local : LocalTree) → slice_get parts place ≡ Some (Protocol local) → get_by_text places local.me ≡ Some place

-- the protocol that the parts have of a role, or that they have none
abbrev pub IsOwn : List Part → Name → Option (Bor Local) → Type 0
IsOwn parts role (Some local) = Contains (protocols_in parts) (local_of local.now) × ((local_of local.now).me ≡ role)
IsOwn parts role None = Contains (roles_in parts) role → ⊥
