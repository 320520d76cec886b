-- The fault of a file that is a tree: of the conditions that don't hold the one of the lowest number, at its first place in the text.
use Rattle.std.specs.Prelude.{ℕ, List, [], ◌∷◌, map, Option, codes}
use Rattle.std.specs.List.{flat_map}
use Rattle.mg_read.specs.Culprit.{Culprit}
use Rattle.mg_read.specs.First.{Judged, FirstOf, with_earlier}
use Rattle.scr_tree.specs.declared.condition.Condition.{Condition}
use Rattle.scr_tree.specs.declared.condition.Condition.TheVariants as conditions
use Rattle.scr_tree.specs.Tree.{body_in}
use Rattle.scr_tree.specs.Spots.{Spot, all_spots, spots_of}
use Rattle.scr_tree.specs.Conditions as says
use Rattle.scr_tree.specs.Going.{Unguarded, UnknownProtocol, DuplicateProtocol, RolesDiffer, told_in, NotLast, all_held, StartsWithDo}
use Rattle.scr_tree.specs.Going.{first_of_several}
use Rattle.scr_tree.specs.Actions.{NameClash, all_actions}
use Rattle.scr_tree.specs.States.{TooManyStates, all_states}
use Rattle.scr_tree.specs.Written.{WrittenPart, WrittenTree, parts_in, roles_in, me_in, name_in, body_of, title_of}
use Rattle.scr_tree.specs.Listing.{DuplicateName, entries, UnknownRole, Mention, mentions, UnknownType, typed, PayloadCount, all_carries}

-- what the first place is at which a condition doesn't hold; each protocol is judged by its own role and roles
abbrev pub Of : WrittenTree → Condition → Option Culprit → Type 0
Of w conditions.DuplicateName = Judged DuplicateName (entries w)
Of w conditions.UnknownRole = Judged (λ (q : WrittenPart × Mention). UnknownRole (roles_in q.0) q.1) (mentions w)
Of w conditions.PeerIsSelf = Judged (λ (q : WrittenPart × Spot). says.PeerIsSelf (me_in q.0) q.1) (spots_of body_of (parts_in w))
Of w conditions.UnknownType = Judged (UnknownType w.types) (typed w)
Of w conditions.PayloadCount = Judged PayloadCount (all_carries w)
Of w conditions.UnknownRec = Judged says.UnknownRec (all_spots (map body_of (parts_in w)))
Of w conditions.DuplicateRec = Judged says.DuplicateRec (all_spots (map body_of (parts_in w)))
Of w conditions.Unguarded = Judged (Unguarded (map title_of (parts_in w))) (spots_of body_in (map title_of (parts_in w)))
Of w conditions.Unreachable = Judged says.Unreachable (all_spots (map body_of (parts_in w)))
Of w conditions.BranchStart = Judged says.BranchStart (all_spots (map body_of (parts_in w)))
Of w conditions.MixedChoice = Judged (λ (q : WrittenPart × Spot). says.MixedChoice (me_in q.0) q.1) (spots_of body_of (parts_in w))
Of w conditions.SameLabel = Judged (λ (q : WrittenPart × Spot). says.SameLabel (me_in q.0) q.1) (spots_of body_of (parts_in w))
Of w conditions.ReservedLabel = Judged (λ (q : WrittenPart × Spot). says.ReservedLabel (me_in q.0) q.1) (spots_of body_of (parts_in w))
Of w conditions.NameClash = Judged NameClash (with_earlier (all_actions me_in body_of 1 (parts_in w)))
Of w conditions.TooManyStates = Judged (TooManyStates w.file) (all_states me_in body_of (parts_in w) ∷ [])
Of w conditions.UnknownProtocol = Judged (UnknownProtocol (map name_in (parts_in w))) (all_spots (map body_of (parts_in w)))
Of w conditions.DuplicateProtocol = Judged DuplicateProtocol (with_earlier (parts_in w))
Of w conditions.RolesDiffer = Judged (RolesDiffer w.first) (flat_map told_in (parts_in w))
Of w conditions.NotLast = Judged NotLast (all_held (map body_of (parts_in w)))
Of w conditions.StartsWithDo = Judged StartsWithDo (first_of_several w.first w.others)

-- the conditions in the order of their numbers
abbrev pub by_number : List Condition
by_number =
    conditions.DuplicateName ∷ conditions.UnknownRole ∷ conditions.PeerIsSelf ∷ conditions.UnknownType ∷ conditions.PayloadCount
    ∷ conditions.UnknownRec ∷ conditions.DuplicateRec ∷ conditions.Unguarded ∷ conditions.Unreachable ∷ conditions.BranchStart
    ∷ conditions.MixedChoice ∷ conditions.SameLabel ∷ conditions.ReservedLabel ∷ conditions.NameClash ∷ conditions.TooManyStates
    ∷ conditions.UnknownProtocol ∷ conditions.DuplicateProtocol ∷ conditions.RolesDiffer ∷ conditions.NotLast ∷ conditions.StartsWithDo ∷ []

-- the word for a condition in a refusal
abbrev pub condition_word : Condition → List ℕ
condition_word conditions.DuplicateName = codes "DuplicateName"
condition_word conditions.UnknownRole = codes "UnknownRole"
condition_word conditions.PeerIsSelf = codes "PeerIsSelf"
condition_word conditions.UnknownType = codes "UnknownType"
condition_word conditions.PayloadCount = codes "PayloadCount"
condition_word conditions.UnknownRec = codes "UnknownRec"
condition_word conditions.DuplicateRec = codes "DuplicateRec"
condition_word conditions.Unguarded = codes "Unguarded"
condition_word conditions.Unreachable = codes "Unreachable"
condition_word conditions.BranchStart = codes "BranchStart"
condition_word conditions.MixedChoice = codes "MixedChoice"
condition_word conditions.SameLabel = codes "SameLabel"
condition_word conditions.ReservedLabel = codes "ReservedLabel"
condition_word conditions.NameClash = codes "NameClash"
condition_word conditions.TooManyStates = codes "TooManyStates"
condition_word conditions.UnknownProtocol = codes "UnknownProtocol"
condition_word conditions.DuplicateProtocol = codes "DuplicateProtocol"
condition_word conditions.RolesDiffer = codes "RolesDiffer"
condition_word conditions.NotLast = codes "NotLast"
condition_word conditions.StartsWithDo = codes "StartsWithDo"

-- the fault, or none
abbrev pub IsFault : WrittenTree → Option (Condition × Culprit) → Type 0
IsFault w = FirstOf (Of w) by_number
