-- There is one answer.
use Rattle.std.proofs.Common.{◌≡◌, ⊎_elim, List, [], ◌∷◌, Option, Some, map, refl, sym, ap, ◌∙◌, true≢false, inl, inr}
use Rattle.mg_text.specs.Call.{Name}
use Rattle.scr_tree.specs.Tree.{Titled, Statements, Nothing, Says, Choice, Rec, Continue, Do}
use Rattle.mg_read.specs.FirstLaws.{IsSingle}
use Rattle.mg_read.proofs.Judging.{one_answer, one_first}
use Rattle.scr_tree.specs.Spots.{Past, Opens, Enters, Way, spot, head_place}
use Rattle.mg_read.specs.Culprit.{Culprit, culprit}
use Rattle.scr_tree.specs.Conditions.{UnknownRole, PeerIsSelf, UnknownRec, DuplicateRec, Unguarded, Unreachable, EmptyBranch, OtherStart}
use Rattle.scr_tree.specs.Conditions.{BranchStart, MixedChoice, SameLabel, ReservedLabel}
use Rattle.scr_tree.specs.Listing as listing
use Rattle.scr_tree.specs.Listing.{DuplicateName, declares, lists, itself, within, UnknownType, declared, carried}
use Rattle.scr_tree.specs.declared.written.Declaration.{Declaration}
use Rattle.mg_text.specs.declared.place.Place.{Place}
use Rattle.scr_tree.specs.Going.{Unguarded as Round, UnknownProtocol, RolesDiffer, heads, gives, StartsWithDo}
use Rattle.scr_tree.specs.Written.{WrittenPart, WrittenTree, parts_in, roles_in, me_in, name_in, title_of}
use Rattle.scr_tree.specs.Faults.{Of, IsFault}
use Rattle.scr_tree.specs.declared.condition.Condition.{Condition}
use Rattle.scr_tree.specs.declared.condition.Condition.TheVariants as conditions

-- both are the culprit that is named
pub two : (k c d : Culprit) → c ≡ k → d ≡ k → c ≡ d
two k c d e f = e ∙ sym f

role_single : (roles : List Name) → IsSingle (UnknownRole roles)
role_single roles (spot way Nothing) c d a b = absurd a
role_single roles (spot way (Says m rest)) c d a b = two _ c d a.0 b.0
role_single roles (spot way (Choice p at bs rest)) c d a b = two _ c d a.0 b.0
role_single roles (spot way (Rec p name body rest)) c d a b = absurd a
role_single roles (spot way (Continue p name rest)) c d a b = absurd a
role_single roles (spot way (Do p name rest)) c d a b = absurd a

mention_single : (roles : List Name) → IsSingle (listing.UnknownRole roles)
mention_single roles (itself me) c d a b = two _ c d a.0 b.0
mention_single roles (within s) c d a b = role_single roles s c d a b

pub name_single : IsSingle DuplicateName
name_single (earlier, declares x) c d a b = two _ c d a.0 b.0
name_single (earlier, lists role) c d a b = two _ c d a.0 b.0

pub type_single : (types : List Declaration) → IsSingle (UnknownType types)
type_single types (declared x) c d a b = two _ c d a.0 b.0
type_single types (carried place type) c d a b = two _ c d a.0 b.0

self_single : (me : Name) → IsSingle (PeerIsSelf me)
self_single me (spot way Nothing) c d a b = absurd a
self_single me (spot way (Says m rest)) c d a b = two _ c d a.0 b.0
self_single me (spot way (Choice p at bs rest)) c d a b = absurd a
self_single me (spot way (Rec p name body rest)) c d a b = absurd a
self_single me (spot way (Continue p name rest)) c d a b = absurd a
self_single me (spot way (Do p name rest)) c d a b = absurd a

-- where a statement begins a branch, the place that is named is its own
other_place : (way : Way) (ss : Statements) (c : Culprit) → OtherStart (spot way ss) c → (place : Place) × (head_place ss ≡ Some place)
    × (c ≡ culprit place [])
other_place [] ss c a = absurd a
other_place (Past s ∷ way) ss c a = absurd a
other_place (Opens name ∷ way) ss c a = absurd a
other_place (Enters at earlier ∷ way) ss c a = (a.0, a.1, a.2)

empty_place : (way : Way) (ss : Statements) (c : Culprit) → EmptyBranch ss c → (place : Place) × (head_place ss ≡ Some place)
    × (c ≡ culprit place [])
empty_place way Nothing c a = absurd a
empty_place way (Says m rest) c a = absurd a
empty_place way (Choice p at bs rest) c a = (p, refl, a.0)
empty_place way (Rec p name body rest) c a = absurd a
empty_place way (Continue p name rest) c a = absurd a
empty_place way (Do p name rest) c a = absurd a

start_single : IsSingle BranchStart
start_single (spot way ss) c d a b =
    let x : (place : Place) × (head_place ss ≡ Some place) × (c ≡ culprit place []) =
    ⊎_elim (empty_place way ss c) (other_place way ss c) a in
    let y : (place : Place) × (head_place ss ≡ Some place) × (d ≡ culprit place []) =
    ⊎_elim (empty_place way ss d) (other_place way ss d) b in
    let same : Some x.0 ≡ Some y.0 = sym x.1 ∙ y.1 in let place : x.0 ≡ y.0 = cc in x.2 ∙ ap (λ p. culprit p []) place ∙ sym y.2

label_single : (me : Name) → IsSingle (ReservedLabel me)
label_single me (spot [] ss) c d a b = absurd a
label_single me (spot (Past s ∷ way) ss) c d a b = absurd a
label_single me (spot (Opens name ∷ way) ss) c d a b = absurd a
label_single me (spot (Enters at earlier ∷ way) Nothing) c d a b = absurd a
label_single me (spot (Enters at earlier ∷ way) (Says m rest)) c d a b = two _ c d a.0 b.0
label_single me (spot (Enters at earlier ∷ way) (Choice p x bs rest)) c d a b = absurd a
label_single me (spot (Enters at earlier ∷ way) (Rec p name body rest)) c d a b = absurd a
label_single me (spot (Enters at earlier ∷ way) (Continue p name rest)) c d a b = absurd a
label_single me (spot (Enters at earlier ∷ way) (Do p name rest)) c d a b = absurd a

rec_single : IsSingle UnknownRec
rec_single (spot way Nothing) c d a b = absurd a
rec_single (spot way (Says m rest)) c d a b = absurd a
rec_single (spot way (Choice p at bs rest)) c d a b = absurd a
rec_single (spot way (Rec p name body rest)) c d a b = absurd a
rec_single (spot way (Continue p name rest)) c d a b = two _ c d a.0 b.0
rec_single (spot way (Do p name rest)) c d a b = absurd a

twice_single : IsSingle DuplicateRec
twice_single (spot way Nothing) c d a b = absurd a
twice_single (spot way (Says m rest)) c d a b = absurd a
twice_single (spot way (Choice p at bs rest)) c d a b = absurd a
twice_single (spot way (Rec p name body rest)) c d a b = two _ c d a.0 b.0
twice_single (spot way (Continue p name rest)) c d a b = absurd a
twice_single (spot way (Do p name rest)) c d a b = absurd a

quiet_single : IsSingle Unguarded
quiet_single (spot way Nothing) c d a b = absurd a
quiet_single (spot way (Says m rest)) c d a b = absurd a
quiet_single (spot way (Choice p at bs rest)) c d a b = absurd a
quiet_single (spot way (Rec p name body rest)) c d a b = absurd a
quiet_single (spot way (Continue p name rest)) c d a b = two _ c d a.0 b.0
quiet_single (spot way (Do p name rest)) c d a b = absurd a

reach_single : IsSingle Unreachable
reach_single (spot [] ss) c d a b = absurd a
reach_single (spot (Past s ∷ way) ss) c d a b =
    let same : Some a.0 ≡ Some b.0 = sym a.1 ∙ b.1 in let place : a.0 ≡ b.0 = cc in a.2 ∙ ap (λ p. culprit p []) place ∙ sym b.2
reach_single (spot (Opens name ∷ way) ss) c d a b = absurd a
reach_single (spot (Enters at earlier ∷ way) ss) c d a b = absurd a

mixed_single : (me : Name) → IsSingle (MixedChoice me)
mixed_single me (spot way Nothing) c d a b = absurd a
mixed_single me (spot way (Says m rest)) c d a b = absurd a
mixed_single me (spot way (Choice p at bs rest)) c d a b = two _ c d a.0 b.0
mixed_single me (spot way (Rec p name body rest)) c d a b = absurd a
mixed_single me (spot way (Continue p name rest)) c d a b = absurd a
mixed_single me (spot way (Do p name rest)) c d a b = absurd a

same_single : (me : Name) → IsSingle (SameLabel me)
same_single me (spot [] ss) c d a b = absurd a
same_single me (spot (Past s ∷ way) ss) c d a b = absurd a
same_single me (spot (Opens name ∷ way) ss) c d a b = absurd a
same_single me (spot (Enters at earlier ∷ way) Nothing) c d a b = absurd a
same_single me (spot (Enters at earlier ∷ way) (Says m rest)) c d a b = two _ c d a.0 b.0
same_single me (spot (Enters at earlier ∷ way) (Choice p x bs rest)) c d a b = absurd a
same_single me (spot (Enters at earlier ∷ way) (Rec p name body rest)) c d a b = absurd a
same_single me (spot (Enters at earlier ∷ way) (Continue p name rest)) c d a b = absurd a
same_single me (spot (Enters at earlier ∷ way) (Do p name rest)) c d a b = absurd a

known_single : (names : List Name) → IsSingle (UnknownProtocol names)
known_single names (spot way Nothing) c d a b = absurd a
known_single names (spot way (Says m rest)) c d a b = absurd a
known_single names (spot way (Choice p at bs rest)) c d a b = absurd a
known_single names (spot way (Rec p name body rest)) c d a b = absurd a
known_single names (spot way (Continue p name rest)) c d a b = absurd a
known_single names (spot way (Do p name rest)) c d a b = two _ c d a.0 b.0

round_single : (all : List Titled) → IsSingle (Round all)
round_single all (t, spot way Nothing) c d a b = absurd a
round_single all (t, spot way (Says m rest)) c d a b = absurd a
round_single all (t, spot way (Choice p at bs rest)) c d a b = absurd a
round_single all (t, spot way (Rec p name body rest)) c d a b = absurd a
round_single all (t, spot way (Continue p name rest)) c d a b = two _ c d a.0 b.0
round_single all (t, spot way (Do p name rest)) c d a b = two _ c d a.0 b.0

told_single : (first : WrittenPart) → IsSingle (RolesDiffer first)
told_single first (heads p) c d a b = two _ c d a.0 b.0
told_single first (gives g) c d a b = two _ c d a.0 b.0

start_with_single : IsSingle StartsWithDo
start_with_single first c d (inl a) (inl b) = two _ c d a.0 b.0
start_with_single first c d (inl a) (inr b) = absurd (true≢false (sym b.2 ∙ a.1))
start_with_single first c d (inr a) (inl b) = absurd (true≢false (sym a.2 ∙ b.1))
start_with_single first c d (inr a) (inr b) =
    let same : Some a.0 ≡ Some b.0 = sym a.3 ∙ b.3 in let place : a.0 ≡ b.0 = cc in a.1 ∙ ap (λ p. culprit p first.name) place ∙ sym b.1

pub one_of : (w : WrittenTree) (k : Condition) (r s : Option Culprit) → Of w k r → Of w k s → r ≡ s
one_of w conditions.DuplicateName r s = one_answer name_single
one_of w conditions.UnknownRole r s = one_answer (λ q. mention_single (roles_in q.0) q.1)
one_of w conditions.PeerIsSelf r s = one_answer (λ q. self_single (me_in q.0) q.1)
one_of w conditions.UnknownType r s = one_answer (type_single w.types)
one_of w conditions.PayloadCount r s = one_answer (λ m c d a b. two _ c d a.0 b.0)
one_of w conditions.UnknownRec r s = one_answer rec_single
one_of w conditions.DuplicateRec r s = one_answer twice_single
one_of w conditions.Unguarded r s = one_answer (round_single (map title_of (parts_in w)))
one_of w conditions.Unreachable r s = one_answer reach_single
one_of w conditions.BranchStart r s = one_answer start_single
one_of w conditions.MixedChoice r s = one_answer (λ q. mixed_single (me_in q.0) q.1)
one_of w conditions.SameLabel r s = one_answer (λ q. same_single (me_in q.0) q.1)
one_of w conditions.ReservedLabel r s = one_answer (λ q. label_single (me_in q.0) q.1)
one_of w conditions.NameClash r s = one_answer (λ q c d a b. two _ c d a.0 b.0)
one_of w conditions.TooManyStates r s = one_answer (λ q c d a b. two _ c d a.0 b.0)
one_of w conditions.UnknownProtocol r s = one_answer (known_single (map name_in (parts_in w)))
one_of w conditions.DuplicateProtocol r s = one_answer (λ q c d a b. two _ c d a.0 b.0)
one_of w conditions.RolesDiffer r s = one_answer (told_single w.first)
one_of w conditions.NotLast r s = one_answer (λ h c d a b. two _ c d a.0 b.0)
one_of w conditions.StartsWithDo r s = one_answer start_with_single

pub one_fault : (w : WrittenTree) (r s : Option (Condition × Culprit)) → IsFault w r → IsFault w s → r ≡ s
one_fault w r s p q = one_first (one_of w) p q
