-- There is one answer.
use Rattle.std.proofs.Common.{◌≡◌, ⊎_elim, List, [], ◌∷◌, Option, Some, map, refl, sym, ap, ◌∙◌}
use Rattle.mg_text.specs.Call.{Name}
use Rattle.scr_global.specs.Tree.{Statements, Nothing, Says, Choice, Rec, Continue}
use Rattle.mg_read.specs.FirstLaws.{IsSingle}
use Rattle.mg_read.proofs.Judging.{one_answer, one_first}
use Rattle.scr_global.specs.Spots.{Past, Opens, Enters, Way, spot, head_place}
use Rattle.mg_read.specs.Culprit.{Culprit, culprit}
use Rattle.scr_global.specs.Conditions.{UnknownRole, PeerIsSelf, UnknownRec, DuplicateRec, Unguarded, Unreachable, EmptyBranch, OtherStart}
use Rattle.scr_global.specs.Conditions.{BranchStart, MixedChoice, SameLabel}
use Rattle.scr_tree.specs.Listing.{DuplicateName, UnknownType}
use Rattle.mg_text.specs.declared.place.Place.{Place}
use Rattle.scr_tree.specs.Written.{role_name}
use Rattle.scr_global_tree.specs.Written.{WrittenTree}
use Rattle.scr_judge.proofs.OneFault.{two, name_single, type_single}
use Rattle.scr_global_tree.specs.Faults.{Of, IsFault}
use Rattle.scr_tree.specs.declared.condition.Condition.{Condition}
use Rattle.scr_tree.specs.declared.condition.Condition.TheVariants as conditions

role_single : (roles : List Name) → IsSingle (UnknownRole roles)
role_single roles (spot way Nothing) c d a b = absurd a
role_single roles (spot way (Says m rest)) c d a b =
    ⊎_elim (λ x. ⊎_elim (λ y. two _ c d x.0 y.0) (λ y. absurd (x.1 y.1)) b) (λ x. ⊎_elim (λ y. absurd (y.1 x.1)) (λ y. two _ c d x.0 y.0) b)
    a
role_single roles (spot way (Choice p at bs rest)) c d a b = two _ c d a.0 b.0
role_single roles (spot way (Rec p name body rest)) c d a b = absurd a
role_single roles (spot way (Continue p name rest)) c d a b = absurd a

self_single : IsSingle PeerIsSelf
self_single (spot way Nothing) c d a b = absurd a
self_single (spot way (Says m rest)) c d a b = two _ c d a.0 b.0
self_single (spot way (Choice p at bs rest)) c d a b = absurd a
self_single (spot way (Rec p name body rest)) c d a b = absurd a
self_single (spot way (Continue p name rest)) c d a b = absurd a

-- where a statement begins a branch, the place that is named is its own
other_place : (way : Way) (ss : Statements) (c : Culprit) → OtherStart (spot way ss) c → (place : Place) × (head_place ss ≡ Some place)
    × (c ≡ culprit place [])
other_place [] ss c a = absurd a
other_place (Past s ∷ way) ss c a = absurd a
other_place (Opens name ∷ way) ss c a = absurd a
other_place (Enters at earlier ∷ way) ss c a = (a.0, a.1, a.2)

empty_place : (way : Way) (ss : Statements) (c : Culprit) → EmptyBranch ss c → (place : Place) × (head_place ss ≡ Some place)
    × (c ≡ culprit place [])
empty_place way Nothing c a = absurd a
empty_place way (Says m rest) c a = absurd a
empty_place way (Choice p at bs rest) c a = (p, refl, a.0)
empty_place way (Rec p name body rest) c a = absurd a
empty_place way (Continue p name rest) c a = absurd a

start_single : IsSingle BranchStart
start_single (spot way ss) c d a b =
    let x : (place : Place) × (head_place ss ≡ Some place) × (c ≡ culprit place []) = ⊎_elim (empty_place way ss c) (other_place way ss c) a
    in
    let y : (place : Place) × (head_place ss ≡ Some place) × (d ≡ culprit place []) = ⊎_elim (empty_place way ss d) (other_place way ss d) b
    in
    let same : Some x.0 ≡ Some y.0 = sym x.1 ∙ y.1 in let place : x.0 ≡ y.0 = cc in x.2 ∙ ap (λ p. culprit p []) place ∙ sym y.2

rec_single : IsSingle UnknownRec
rec_single (spot way Nothing) c d a b = absurd a
rec_single (spot way (Says m rest)) c d a b = absurd a
rec_single (spot way (Choice p at bs rest)) c d a b = absurd a
rec_single (spot way (Rec p name body rest)) c d a b = absurd a
rec_single (spot way (Continue p name rest)) c d a b = two _ c d a.0 b.0

twice_single : IsSingle DuplicateRec
twice_single (spot way Nothing) c d a b = absurd a
twice_single (spot way (Says m rest)) c d a b = absurd a
twice_single (spot way (Choice p at bs rest)) c d a b = absurd a
twice_single (spot way (Rec p name body rest)) c d a b = two _ c d a.0 b.0
twice_single (spot way (Continue p name rest)) c d a b = absurd a

quiet_single : IsSingle Unguarded
quiet_single (spot way Nothing) c d a b = absurd a
quiet_single (spot way (Says m rest)) c d a b = absurd a
quiet_single (spot way (Choice p at bs rest)) c d a b = absurd a
quiet_single (spot way (Rec p name body rest)) c d a b = absurd a
quiet_single (spot way (Continue p name rest)) c d a b = two _ c d a.0 b.0

reach_single : IsSingle Unreachable
reach_single (spot [] ss) c d a b = absurd a
reach_single (spot (Past s ∷ way) ss) c d a b =
    let same : Some a.0 ≡ Some b.0 = sym a.1 ∙ b.1 in let place : a.0 ≡ b.0 = cc in a.2 ∙ ap (λ p. culprit p []) place ∙ sym b.2
reach_single (spot (Opens name ∷ way) ss) c d a b = absurd a
reach_single (spot (Enters at earlier ∷ way) ss) c d a b = absurd a

mixed_single : IsSingle MixedChoice
mixed_single (spot way Nothing) c d a b = absurd a
mixed_single (spot way (Says m rest)) c d a b = absurd a
mixed_single (spot way (Choice p at bs rest)) c d a b = two _ c d a.0 b.0
mixed_single (spot way (Rec p name body rest)) c d a b = absurd a
mixed_single (spot way (Continue p name rest)) c d a b = absurd a

same_single : IsSingle SameLabel
same_single (spot [] ss) c d a b = absurd a
same_single (spot (Past s ∷ way) ss) c d a b = absurd a
same_single (spot (Opens name ∷ way) ss) c d a b = absurd a
same_single (spot (Enters at earlier ∷ way) Nothing) c d a b = absurd a
same_single (spot (Enters at earlier ∷ way) (Says m rest)) c d a b = two _ c d a.0 b.0
same_single (spot (Enters at earlier ∷ way) (Choice p x bs rest)) c d a b = absurd a
same_single (spot (Enters at earlier ∷ way) (Rec p name body rest)) c d a b = absurd a
same_single (spot (Enters at earlier ∷ way) (Continue p name rest)) c d a b = absurd a

one_of : (w : WrittenTree) (k : Condition) (r s : Option Culprit) → Of w k r → Of w k s → r ≡ s
one_of w conditions.DuplicateName r s = one_answer name_single
one_of w conditions.UnknownRole r s = one_answer (role_single (map role_name w.roles))
one_of w conditions.PeerIsSelf r s = one_answer self_single
one_of w conditions.UnknownType r s = one_answer (type_single w.types)
one_of w conditions.PayloadCount r s = one_answer (λ m c d a b. two _ c d a.0 b.0)
one_of w conditions.UnknownRec r s = one_answer rec_single
one_of w conditions.DuplicateRec r s = one_answer twice_single
one_of w conditions.Unguarded r s = one_answer quiet_single
one_of w conditions.Unreachable r s = one_answer reach_single
one_of w conditions.BranchStart r s = one_answer start_single
one_of w conditions.MixedChoice r s = one_answer mixed_single
one_of w conditions.SameLabel r s = one_answer same_single
one_of w _ r s = λ a b. a ∙ sym b

pub one_fault : (w : WrittenTree) (r s : Option (Condition × Culprit)) → IsFault w r → IsFault w s → r ≡ s
one_fault w r s p q = one_first (one_of w) p q
