-- What a local protocol meets: it can be written, and none of the conditions is at fault.
use Rattle.std.specs.Prelude.{◌≡◌, ◌≢◌, ◌≤◌, ℕ, suc, max, List, [], ◌∷◌, map, true, None, Contains}
use Rattle.std.specs.List.{AllByRecursion}
use Rattle.mg_text.specs.Call.{Name}
use Rattle.mg_read.specs.First.{Clean, with_earlier}
use Rattle.scr_tree.specs.Tree.{PartTree, LocalTree, Titled, titled, bodies_in, body_in, Statements, Nothing, Says, Choice, Rec, Continue}
use Rattle.scr_tree.specs.Tree.{Do, Branches, NoBranch, Branch}
use Rattle.scr_tree.specs.Words.{IsName}
use Rattle.scr_tree.specs.Spots.{spots, all_spots, spots_of}
use Rattle.scr_tree.specs.Conditions.{UnknownRole, PeerIsSelf, UnknownRec, DuplicateRec, Unreachable, BranchStart, MixedChoice, SameLabel}
use Rattle.scr_tree.specs.Conditions.{ReservedLabel}
use Rattle.scr_tree.specs.Going.{Unguarded, UnknownProtocol, NotLast, all_held, has_deed, first_do}
use Rattle.scr_tree.specs.Actions.{NameClash, all_actions}
use Rattle.scr_tree.specs.States.{TooManyStates, all_states}

-- no name stands twice
abbrev pub AreDistinct : List Name → Type 0
AreDistinct [] = Unit {0}
AreDistinct (name ∷ names) = (Contains names name → ⊥) × AreDistinct names

abbrev mutual
  -- how many statements stand one inside another
  pub depth : Statements → ℕ
  depth Nothing = 0
  depth (Says m rest) = max 1 (depth rest)
  depth (Choice place at branches rest) = max (suc (depth_in branches)) (depth rest)
  depth (Rec place name body rest) = max (suc (depth body)) (depth rest)
  depth (Continue place name rest) = max 1 (depth rest)
  depth (Do place name rest) = max 1 (depth rest)

  pub depth_in : Branches → ℕ
  depth_in NoBranch = 0
  depth_in (Branch b more) = max (depth b) (depth_in more)

abbrev mutual
  -- all names in the statements are names of Scribble, and each choice has a branch
  pub AreWritten : Statements → Type 0
  AreWritten Nothing = Unit {0}
  AreWritten (Says m rest) = IsName m.label × IsName m.peer × AreWritten rest
  AreWritten (Choice place at branches rest) = IsName at × HasBranches branches × AreWrittenIn branches × AreWritten rest
  AreWritten (Rec place name body rest) = IsName name × AreWritten body × AreWritten rest
  AreWritten (Continue place name rest) = IsName name × AreWritten rest
  AreWritten (Do place name rest) = IsName name × AreWritten rest

  pub AreWrittenIn : Branches → Type 0
  AreWrittenIn NoBranch = Unit {0}
  AreWrittenIn (Branch b more) = AreWritten b × AreWrittenIn more

  pub HasBranches : Branches → Type 0
  HasBranches NoBranch = ⊥
  HasBranches (Branch b more) = Unit {0}

-- the same of a protocol behind the first, whose statements nest 200 deep at most
pub record IsWrittenPart (part : PartTree) : Type 0 where
  pub name : IsName part.name
  pub body : AreWritten part.body
  pub depth : depth part.body ≤ 200

-- the names are names of Scribble, each choice has a branch, and statements nest 200 deep at most
pub record IsWritten (local : LocalTree) : Type 0 where
  pub name : IsName local.name
  pub roles : AllByRecursion IsName local.roles
  pub body : AreWritten local.body
  pub depth : depth local.body ≤ 200
  pub others : AllByRecursion IsWrittenPart local.others

-- the names of the protocols
abbrev pub names_in : LocalTree → List Name
names_in local = map (λ (t : Titled). t.name) (titled local)

-- a valid local protocol
pub record IsValid (local : LocalTree) : Type 0 where
  pub written : IsWritten local
  pub roles_differ : AreDistinct local.roles
  pub me_listed : Contains local.roles local.me
  pub roles_listed : Clean (UnknownRole local.roles) (all_spots (bodies_in local))
  pub peers_apart : Clean (PeerIsSelf local.me) (all_spots (bodies_in local))
  pub recs_known : Clean UnknownRec (all_spots (bodies_in local))
  pub recs_differ : Clean DuplicateRec (all_spots (bodies_in local))
  pub guarded : Clean (Unguarded (titled local)) (spots_of body_in (titled local))
  pub reachable : Clean Unreachable (all_spots (bodies_in local))
  pub starts : Clean BranchStart (all_spots (bodies_in local))
  pub uniform : Clean (MixedChoice local.me) (all_spots (bodies_in local))
  pub labels_differ : Clean (SameLabel local.me) (all_spots (bodies_in local))
  pub labels_free : Clean (ReservedLabel local.me) (all_spots (bodies_in local))
  pub one_action : Clean NameClash (with_earlier (all_actions (λ (t : Titled). local.me) body_in 1 (titled local)))
  pub few_states : Clean (TooManyStates local.file) (all_states (λ (t : Titled). local.me) body_in (titled local) ∷ [])
  pub protocols_known : Clean (UnknownProtocol (names_in local)) (all_spots (bodies_in local))
  pub protocols_differ : AreDistinct (names_in local)
  pub last : Clean NotLast (all_held (bodies_in local))
  -- where there are others, the first protocol has a message or a choice, and no `do` before them all
  pub acts_first : local.others ≢ [] → (has_deed local.body ≡ true) × (first_do (spots [] local.body) ≡ None)
