-- For private clauses: what one walk over a text finds for a role.
use Rattle.std.specs.Prelude.{ℕ, suc, ◌-◌, max, nat_le, List, [], ◌∷◌, Bool, true, false, ◌&&◌, ◌||◌, not, if◌then◌else◌, Option, Some}
use Rattle.std.specs.Prelude.{None}
use Rattle.std.specs.Option.{option_or}
use Rattle.std.specs.Str.{bytes_eq}
use Rattle.mg_text.specs.Call.{Name}
use Rattle.mg_text.specs.declared.place.Place.{Place}
use Rattle.scr_tree.specs.Tree as local
use Rattle.scr_global.specs.Tree.{Statements, Nothing, Says, Choice, Rec, Continue, Branches, NoBranch, Branch, said, said_each}
use Rattle.scr_global.specs.Projecting.{both, mapped, is_named, are_named}
use Rattle.scr_global.specs.Texts.{behind, merged_text, projected, projected_each}
use Rattle.scr_global_tree.proofs.Appends.{beside}

-- ---- how far a `continue` leads

-- how many of the recs around, the innermost first, are left or begun again by a `continue` of this name; one too many where none has the
-- name
abbrev pub far : Name → List Name → ℕ
far name [] = 1
far name (other ∷ around) = if bytes_eq other name then 1 else suc (far name around)

abbrev mutual
  -- the most that a `continue` in the statements leaves or begins again of the recs around them; 0 where there is none
  pub reached : List Name → Statements → ℕ
  reached around Nothing = 0
  reached around (Says m rest) = reached around rest
  reached around (Choice place at branches rest) = max (reached_in around branches) (reached around rest)
  reached around (Rec place name body rest) = max (reached (name ∷ around) body - 1) (reached around rest)
  reached around (Continue place name rest) = max (far name around) (reached around rest)

  pub reached_in : List Name → Branches → ℕ
  reached_in around NoBranch = 0
  reached_in around (Branch b more) = max (reached around b) (reached_in around more)

-- ---- the first choice that can't be merged

-- there is a value, or the place is at fault
abbrev pub fault_unless : {A : Type 0} → Place → Option A → Option Place
fault_unless place None = Some place
fault_unless place (Some a) = None

-- where a choice stands that can't be merged, though each of its branches is projected
abbrev pub choice_fault : Name → Place → (self : Bool) → Option local.Branches → Option Place
choice_fault me place self None = None
choice_fault me place true (Some bs) = None
choice_fault me place false (Some bs) = fault_unless place (merged_text me place bs local.Nothing)

abbrev mutual
  -- the place of the first choice that can't be merged, though each of its branches is projected
  pub unmerged : Name → Statements → Option Place
  unmerged me Nothing = None
  unmerged me (Says m rest) = unmerged me rest
  unmerged me (Choice place at branches rest) =
      option_or (choice_fault me place (bytes_eq at me) (projected_each me branches))
      (option_or (unmerged_in me branches) (unmerged me rest))
  unmerged me (Rec place name body rest) = option_or (unmerged me body) (unmerged me rest)
  unmerged me (Continue place name rest) = unmerged me rest

  pub unmerged_in : Name → Branches → Option Place
  unmerged_in me NoBranch = None
  unmerged_in me (Branch b more) = option_or (unmerged me b) (unmerged_in me more)

-- ---- all of it

-- of statements: whether a message names the role, how far they lead, the first choice that can't be merged, and what the role does
pub record Found : Type 0 where
  pub named : Bool
  pub reach : ℕ
  pub first : Option Place
  pub says : Option local.Statements

abbrev pub found : Name → List Name → Statements → Found
found me around s = record { named = is_named me (said s); reach = reached around s; first = unmerged me s; says = projected me s }

-- the same of branches
pub record FoundEach : Type 0 where
  pub named : Bool
  pub reach : ℕ
  pub first : Option Place
  pub says : Option local.Branches

abbrev pub found_each : Name → List Name → Branches → FoundEach
found_each me around bs = record {
  named = are_named me (said_each bs);
  reach = reached_in around bs;
  first = unmerged_in me bs;
  says =
      projected_each me bs;
}

-- of no statements, and of no branches
abbrev pub nothing : Found
nothing = record { named = false; reach = 0; first = None; says = Some local.Nothing }

abbrev pub no_branch : FoundEach
no_branch = record { named = false; reach = 0; first = None; says = Some local.NoBranch }

-- one list of statements behind another
abbrev pub followed : Found → Found → Found
followed a b = record {
  named = a.named || b.named;
  reach = max a.reach b.reach;
  first = option_or a.first b.first;
  says = both (λ s t. Some (behind s t)) a.says b.says;
}

-- some branches behind others
abbrev pub followed_each : FoundEach → FoundEach → FoundEach
followed_each a b = record {
  named = a.named || b.named;
  reach = max a.reach b.reach;
  first = option_or a.first b.first;
  says = both (λ s t. Some (beside s t)) a.says b.says;
}

-- one branch
abbrev pub as_branch : Found → FoundEach
as_branch a = record { named = a.named; reach = a.reach; first = a.first; says = mapped (λ b. local.Branch b local.NoBranch) a.says }

-- what a rec with this body says
abbrev pub body_said : Place → Name → Bool → ℕ → Option local.Statements → Option local.Statements
body_said place name named reach says =
    if not named && nat_le reach 1 then Some local.Nothing else mapped (λ b. local.Rec place name b local.Nothing) says

-- a rec with this body
abbrev pub turned : Place → Name → Found → Found
turned place name a = record {
  named = a.named;
  reach = a.reach - 1;
  first = a.first;
  says = body_said place name a.named a.reach a.says;
}

-- what a choice with these branches says
abbrev pub chosen_says : Name → Place → Name → Option local.Branches → Option local.Statements
chosen_says me place at bs =
    if bytes_eq at me then mapped (λ b. local.Choice place at b local.Nothing) bs else both (merged_text me place) bs (Some local.Nothing)

-- a choice with these branches
abbrev pub chosen : Name → Place → Name → FoundEach → Found
chosen me place at a = record {
  named = a.named;
  reach = a.reach;
  first = option_or (choice_fault me place (bytes_eq at me) a.says) a.first;
  says = chosen_says me place at a.says;
}

-- the statement in front is a message that the role neither sends nor takes
abbrev pub passes : Name → Statements → Bool
passes me (Says m rest) = not (bytes_eq m.from me || bytes_eq m.to me)
passes me _ = false
