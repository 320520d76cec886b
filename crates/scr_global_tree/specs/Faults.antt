-- The fault of a file that is a tree: of the conditions that don't hold the one of the lowest number, at its first place in the text.
use Rattle.std.specs.Prelude.{◌≡◌, List, [], ◌∷◌, ◌++◌, map, Option, None}
use Rattle.std.specs.List.{flat_map}
use Rattle.mg_read.specs.Culprit.{Culprit}
use Rattle.mg_read.specs.First.{Judged, FirstOf, with_earlier}
use Rattle.scr_tree.specs.declared.condition.Condition.{Condition}
use Rattle.scr_tree.specs.declared.condition.Condition.TheVariants as conditions
use Rattle.scr_tree.specs.Written.{role_name}
use Rattle.scr_tree.specs.Listing.{Entry, declares, lists, DuplicateName, Typed, declared, carried_by, UnknownType, PayloadCount}
use Rattle.scr_global.specs.Spots.{spots}
use Rattle.scr_global.specs.Conditions as says
use Rattle.scr_global_tree.specs.Written.{WrittenTree}

-- what a file lists before its protocol's body, in the order of the text
abbrev pub entries : WrittenTree → List Entry
entries w = map declares w.types ++ map lists w.roles

-- where types are named, in the order of the text
abbrev pub typed : WrittenTree → List Typed
typed w = map declared w.types ++ flat_map carried_by w.carries

-- what the first place is at which a condition doesn't hold; those behind `by_number` are none of a global protocol's
abbrev pub Of : WrittenTree → Condition → Option Culprit → Type 0
Of w conditions.DuplicateName = Judged DuplicateName (with_earlier (entries w))
Of w conditions.UnknownRole = Judged (says.UnknownRole (map role_name w.roles)) (spots [] w.body)
Of w conditions.PeerIsSelf = Judged says.PeerIsSelf (spots [] w.body)
Of w conditions.UnknownType = Judged (UnknownType w.types) (typed w)
Of w conditions.PayloadCount = Judged PayloadCount w.carries
Of w conditions.UnknownRec = Judged says.UnknownRec (spots [] w.body)
Of w conditions.DuplicateRec = Judged says.DuplicateRec (spots [] w.body)
Of w conditions.Unguarded = Judged says.Unguarded (spots [] w.body)
Of w conditions.Unreachable = Judged says.Unreachable (spots [] w.body)
Of w conditions.BranchStart = Judged says.BranchStart (spots [] w.body)
Of w conditions.MixedChoice = Judged says.MixedChoice (spots [] w.body)
Of w conditions.SameLabel = Judged says.SameLabel (spots [] w.body)
Of w _ = λ r. r ≡ None

-- the conditions in the order of their numbers
abbrev pub by_number : List Condition
by_number =
    conditions.DuplicateName ∷ conditions.UnknownRole ∷ conditions.PeerIsSelf ∷ conditions.UnknownType ∷ conditions.PayloadCount
    ∷ conditions.UnknownRec ∷ conditions.DuplicateRec ∷ conditions.Unguarded ∷ conditions.Unreachable ∷ conditions.BranchStart
    ∷ conditions.MixedChoice ∷ conditions.SameLabel ∷ []

-- the fault, or none
abbrev pub IsFault : WrittenTree → Option (Condition × Culprit) → Type 0
IsFault w = FirstOf (Of w) by_number
