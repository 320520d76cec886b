-- What each statement answers is right.
use Rattle.std.proofs.Common.{◌≡◌, ◌↔◌, ◌⊎◌, ⊎_elim, inl, inr, Bool, true, false, not, ◌&&◌, ◌||◌, ◌∷◌, if◌then◌else◌, IsTrue, List, []}
use Rattle.std.proofs.Common.{Some, None, Contains, Decides, refl, sym, ap, ◌∙◌, true≢false}
use Rattle.std.specs.Str.{bytes_eq}
use Rattle.std.proofs.lemmas.Slice.Eq.{bytes_eq-Decides}
use Rattle.mg_text.specs.Call.{Name}
use Rattle.scr_tree.specs.declared.syntax.Direction.{Direction}
use Rattle.scr_tree.specs.declared.syntax.Direction.TheVariants as directions
use Rattle.scr_tree.specs.Tree.{Statements, Nothing, Says, Choice, Rec, Continue, Do, Branches, NoBranch, Branch}
use Rattle.std.specs.Option.{is_some}
use Rattle.mg_text.specs.declared.place.Place.{Place}
use Rattle.scr_tree.specs.declared.syntax.Message.{Message}
use Rattle.scr_tree.specs.Spots.{Past, Opens, Enters, Way, spot, head_place}
use Rattle.mg_read.specs.Culprit.{Culprit, culprit}
use Rattle.scr_tree.specs.Conditions.{UnknownRole, PeerIsSelf, UnknownRec, DuplicateRec, HasEmpty, BeginsOtherwise, EmptyBranch, OtherStart}
use Rattle.scr_tree.specs.Conditions.{BranchStart, MixedChoice, AllSend, AllFrom, IsUniform, ReservedLabel}
use Rattle.scr_judge.specs.inner.Names.{is_among}
use Rattle.scr_judge.specs.inner.Seen.{Names}
use Rattle.scr_judge.specs.inner.OnSpot.{asks_role, is_send, all_send, one_peer, uniform, is_nothing, some_empty, unless, unknown_role}
use Rattle.scr_judge.specs.inner.OnSpot.{peer_is_self, unknown_rec, duplicate_rec, branch_start, mixed_choice, is_free_label}
use Rattle.scr_judge.specs.inner.OnSpot.{reserved_label}
use Rattle.scr_judge.proofs.SpotWalk.{AreAround, beginning, Answers, AsksRight}
use Rattle.scr_judge.proofs.Words.{free_is_none, not_free}

-- a test that decides that nothing is wrong
pub unless_right : (P : Type 0) (b : Bool) (k : Culprit) → (b ≡ true → P) → (P → b ≡ true) → Answers (λ c. (c ≡ k) × (P → ⊥)) (unless b k)
unless_right P true k to from = λ c x. x.1 (to refl)
unless_right P false k to from = (refl, λ p. true≢false (sym (from p)))

-- a test that decides that something is wrong
unless_not : (P : Type 0) (b : Bool) (k : Culprit) → (b ≡ true → P) → (P → b ≡ true) → Answers (λ c. (c ≡ k) × P) (unless (not b) k)
unless_not P true k to from = (refl, to refl)
unless_not P false k to from = λ c x. true≢false (sym (from x.1))

module _ (roles : List Name) (has : Names) (h : (q : Name) → IsTrue (has q) ↔ Contains roles q) where
  role_answers : (way : Way) (ss : Statements) → Answers (UnknownRole roles (spot way ss)) (unknown_role has ss)
  role_answers way Nothing = λ c x. x
  role_answers way (Says m rest) = unless_right (Contains roles m.peer) (has m.peer) (culprit m.place m.peer) (h m.peer).0 (h m.peer).1
  role_answers way (Choice p at bs rest) = unless_right (Contains roles at) (has at) (culprit p at) (h at).0 (h at).1
  role_answers way (Rec p name body rest) = λ c x. x
  role_answers way (Continue p name rest) = λ c x. x
  role_answers way (Do p name rest) = λ c x. x

  pub role_right : AsksRight (UnknownRole roles) (asks_role has)
  role_right = record { asks = λ around way ss a. role_answers way ss }

self_answers : (me : Name) (way : Way) (ss : Statements) → Answers (PeerIsSelf me (spot way ss)) (peer_is_self me ss)
self_answers me way Nothing = λ c x. x
self_answers me way (Says m rest) = unless_not (m.peer ≡ me) (bytes_eq m.peer me) (culprit m.place []) (bytes_eq-Decides m.peer me).0
    (bytes_eq-Decides m.peer me).1
self_answers me way (Choice p at bs rest) = λ c x. x
self_answers me way (Rec p name body rest) = λ c x. x
self_answers me way (Continue p name rest) = λ c x. x
self_answers me way (Do p name rest) = λ c x. x

pub self_right : (me : Name) → AsksRight (PeerIsSelf me) (λ begins around. peer_is_self me)
self_right me = record { asks = λ around way ss a. self_answers me way ss }

rec_answers : (around : List Name) (way : Way) (ss : Statements) → AreAround around way →
    Answers (UnknownRec (spot way ss)) (unknown_rec around ss)
rec_answers around way Nothing h = λ c x. x
rec_answers around way (Says m rest) h = λ c x. x
rec_answers around way (Choice p at bs rest) h = λ c x. x
rec_answers around way (Rec p name body rest) h = λ c x. x
rec_answers around way (Continue p name rest) h = unless_right (Contains way (Opens name)) (is_among name around) (culprit p name)
    (h.each name).0 (h.each name).1
rec_answers around way (Do p name rest) h = λ c x. x

pub rec_right : AsksRight UnknownRec (λ begins. unknown_rec)
rec_right = record { asks = rec_answers }

twice_answers : (around : List Name) (way : Way) (ss : Statements) → AreAround around way → Answers (DuplicateRec (spot way ss))
    (duplicate_rec around ss)
twice_answers around way Nothing h = λ c x. x
twice_answers around way (Says m rest) h = λ c x. x
twice_answers around way (Choice p at bs rest) h = λ c x. x
twice_answers around way (Rec p name body rest) h = unless_not (Contains way (Opens name)) (is_among name around) (culprit p name)
    (h.each name).0 (h.each name).1
twice_answers around way (Continue p name rest) h = λ c x. x
twice_answers around way (Do p name rest) h = λ c x. x

pub twice_right : AsksRight DuplicateRec (λ begins. duplicate_rec)
twice_right = record { asks = twice_answers }

-- directions
sends_to : (d : Direction) → is_send d ≡ true → d ≡ directions.To
sends_to directions.To e = refl
sends_to directions.From e = absurd (true≢false (sym e))

sends_from : (d : Direction) → is_send d ≡ false → d ≡ directions.From
sends_from directions.To e = absurd (true≢false e)
sends_from directions.From e = refl

both_true : (a b : Bool) → (a && b) ≡ true → (a ≡ true) × (b ≡ true)
both_true true b e = (refl, e)
both_true false b e = absurd (true≢false (sym e))

both_so : (a b : Bool) → a ≡ true → b ≡ true → (a && b) ≡ true
both_so a b e f = ap (λ x. x && b) e ∙ f

send_to : (bs : Branches) → all_send bs ≡ true → AllSend bs
send_to NoBranch e = tt
send_to (Branch Nothing more) e = send_to more e
send_to (Branch (Says m rest) more) e = let h = both_true (is_send m.direction) (all_send more) e in
    (sends_to m.direction h.0, send_to more h.1)
send_to (Branch (Choice p at bs rest) more) e = send_to more e
send_to (Branch (Rec p name body rest) more) e = send_to more e
send_to (Branch (Continue p name rest) more) e = send_to more e
send_to (Branch (Do p name rest) more) e = send_to more e

send_from : (bs : Branches) → AllSend bs → all_send bs ≡ true
send_from NoBranch h = refl
send_from (Branch Nothing more) h = send_from more h
send_from (Branch (Says m rest) more) h = both_so (is_send m.direction) (all_send more) (ap is_send h.0) (send_from more h.1)
send_from (Branch (Choice p at bs rest) more) h = send_from more h
send_from (Branch (Rec p name body rest) more) h = send_from more h
send_from (Branch (Continue p name rest) more) h = send_from more h
send_from (Branch (Do p name rest) more) h = send_from more h

-- receives from a peer that is known
one_known : (b s : Bool) (r : Bool) → (if b then false else (if s then r else false)) ≡ true → (b ≡ false) × (s ≡ true) × (r ≡ true)
one_known true s r e = absurd (true≢false (sym e))
one_known false true r e = (refl, refl, e)
one_known false false r e = absurd (true≢false (sym e))

known_so : (b s r : Bool) → b ≡ false → s ≡ true → r ≡ true → (if b then false else (if s then r else false)) ≡ true
known_so b s r e f g = ap (λ x. if x then false else (if s then r else false)) e ∙ ap (λ x. if x then r else false) f ∙ g

one_new : (b r : Bool) → (if b then false else r) ≡ true → (b ≡ false) × (r ≡ true)
one_new true r e = absurd (true≢false (sym e))
one_new false r e = (refl, e)

from_to : (peer : Name) (bs : Branches) → one_peer (Some peer) bs ≡ true → AllFrom peer bs
from_to peer NoBranch e = tt
from_to peer (Branch Nothing more) e = from_to peer more e
from_to peer (Branch (Says m rest) more) e =
    let h = one_known (is_send m.direction) (bytes_eq m.peer peer) (one_peer (Some peer) more) e in
    (sends_from m.direction h.0, (bytes_eq-Decides m.peer peer).0 h.1, from_to peer more h.2)
from_to peer (Branch (Choice p at bs rest) more) e = from_to peer more e
from_to peer (Branch (Rec p name body rest) more) e = from_to peer more e
from_to peer (Branch (Continue p name rest) more) e = from_to peer more e
from_to peer (Branch (Do p name rest) more) e = from_to peer more e

from_from : (peer : Name) (bs : Branches) → AllFrom peer bs → one_peer (Some peer) bs ≡ true
from_from peer NoBranch h = refl
from_from peer (Branch Nothing more) h = from_from peer more h
from_from peer (Branch (Says m rest) more) h = known_so (is_send m.direction) (bytes_eq m.peer peer) _ (ap is_send h.0)
    ((bytes_eq-Decides m.peer peer).1 h.1) (from_from peer more h.2)
from_from peer (Branch (Choice p at bs rest) more) h = from_from peer more h
from_from peer (Branch (Rec p name body rest) more) h = from_from peer more h
from_from peer (Branch (Continue p name rest) more) h = from_from peer more h
from_from peer (Branch (Do p name rest) more) h = from_from peer more h

any_to : (bs : Branches) → one_peer None bs ≡ true → (peer : Name) × AllFrom peer bs
any_to NoBranch e = ([], tt)
any_to (Branch Nothing more) e = any_to more e
any_to (Branch (Says m rest) more) e =
    let h = one_new (is_send m.direction) (one_peer (Some m.peer) more) e in
    (m.peer, (sends_from m.direction h.0, refl, from_to m.peer more h.1))
any_to (Branch (Choice p at bs rest) more) e = any_to more e
any_to (Branch (Rec p name body rest) more) e = any_to more e
any_to (Branch (Continue p name rest) more) e = any_to more e
any_to (Branch (Do p name rest) more) e = any_to more e

any_from : (peer : Name) (bs : Branches) → AllFrom peer bs → one_peer None bs ≡ true
any_from peer NoBranch h = refl
any_from peer (Branch Nothing more) h = any_from peer more h
any_from peer (Branch (Says m rest) more) h =
    ap (λ x. if x then false else one_peer (Some m.peer) more) (ap is_send h.0) ∙ ap (λ n. one_peer (Some n) more) h.1 ∙
    from_from peer more h.2
any_from peer (Branch (Choice p at bs rest) more) h = any_from peer more h
any_from peer (Branch (Rec p name body rest) more) h = any_from peer more h
any_from peer (Branch (Continue p name rest) more) h = any_from peer more h
any_from peer (Branch (Do p name rest) more) h = any_from peer more h

module _ (me at : Name) (bs : Branches) where
  uniform_to : (t : Bool) → Decides t (at ≡ me) → (if t then all_send bs else one_peer None bs) ≡ true → IsUniform me at bs
  uniform_to true d e = inl (d.0 refl, send_to bs e)
  uniform_to false d e = inr ((λ same. true≢false (sym (d.1 same))), (any_to bs e).0, (any_to bs e).1)

  uniform_from : (t : Bool) → Decides t (at ≡ me) → IsUniform me at bs → (if t then all_send bs else one_peer None bs) ≡ true
  uniform_from true d (inl h) = send_from bs h.1
  uniform_from true d (inr h) = absurd (h.0 (d.0 refl))
  uniform_from false d (inl h) = absurd (true≢false (sym (d.1 h.0)))
  uniform_from false d (inr h) = any_from h.1 bs h.2

mixed_answers : (me : Name) (way : Way) (ss : Statements) → Answers (MixedChoice me (spot way ss)) (mixed_choice me ss)
mixed_answers me way Nothing = λ c x. x
mixed_answers me way (Says m rest) = λ c x. x
mixed_answers me way (Choice p at bs rest) =
    unless_right (IsUniform me at bs) (uniform me at bs) (culprit p []) (uniform_to me at bs (bytes_eq at me) (bytes_eq-Decides at me))
    (uniform_from me at bs (bytes_eq at me) (bytes_eq-Decides at me))
mixed_answers me way (Rec p name body rest) = λ c x. x
mixed_answers me way (Continue p name rest) = λ c x. x
mixed_answers me way (Do p name rest) = λ c x. x

pub mixed_right : (me : Name) → AsksRight (MixedChoice me) (λ begins around. mixed_choice me)
mixed_right me = record { asks = λ around way ss a. mixed_answers me way ss }

-- how a branch begins
nothing_is : (b : Statements) → is_nothing b ≡ true → b ≡ Nothing
nothing_is Nothing e = refl
nothing_is (Says m rest) e = absurd (true≢false (sym e))
nothing_is (Choice p at bs rest) e = absurd (true≢false (sym e))
nothing_is (Rec p name body rest) e = absurd (true≢false (sym e))
nothing_is (Continue p name rest) e = absurd (true≢false (sym e))
nothing_is (Do p name rest) e = absurd (true≢false (sym e))

either_so : (a b : Bool) → (a || b) ≡ true → (a ≡ true) ⊎ (b ≡ true)
either_so true b e = inl refl
either_so false b e = inr e

right_so : (a b : Bool) → b ≡ true → (a || b) ≡ true
right_so true b e = refl
right_so false b e = e

empty_to : (bs : Branches) → some_empty bs ≡ true → HasEmpty bs
empty_to NoBranch e = absurd (true≢false (sym e))
empty_to (Branch b more) e = ⊎_elim (λ n. inl (nothing_is b n)) (λ m. inr (empty_to more m)) (either_so (is_nothing b) (some_empty more) e)

empty_from : (bs : Branches) → HasEmpty bs → some_empty bs ≡ true
empty_from NoBranch h = absurd h
empty_from (Branch b more) (inl e) = ap (λ x. is_nothing x || some_empty more) e
empty_from (Branch b more) (inr h) = right_so (is_nothing b) (some_empty more) (empty_from more h)

-- a choice, which begins a branch or not
choice_answers : (b : Bool) (At : Culprit → Type 0) (P : Type 0) (k : Culprit) → (b ≡ true → P) → (P → b ≡ true) →
    ((c : Culprit) → At c → (c ≡ k) × P) → ((c : Culprit) → (c ≡ k) × P → At c) →
    Answers At (unless (not b) k)
choice_answers true At P k to from out back = back k (refl, to refl)
choice_answers false At P k to from out back = λ c a. true≢false (sym (from (out c a).1))

not_first : (way : Way) (ss : Statements) (c : Culprit) → is_some (beginning way) ≡ false → OtherStart (spot way ss) c → ⊥
not_first [] ss c e a = a
not_first (Past s ∷ way) ss c e a = a
not_first (Opens name ∷ way) ss c e a = a
not_first (Enters at earlier ∷ way) ss c e a = true≢false e

-- at a choice: the choice is at fault where it has an empty branch, and where it begins one
start_choice : (way : Way) (first : Bool) → is_some (beginning way) ≡ first → (p : Place) (at : Name) (bs : Branches) (rest : Statements) →
    Answers (BranchStart (spot way (Choice p at bs rest))) (unless (not (first || some_empty bs)) (culprit p []))
start_choice [] true e p at bs rest = absurd (true≢false (sym e))
start_choice (Past s ∷ way) true e p at bs rest = absurd (true≢false (sym e))
start_choice (Opens name ∷ way) true e p at bs rest = absurd (true≢false (sym e))
start_choice (Enters a earlier ∷ way) true e p at bs rest = inr (p, refl, refl, tt)
start_choice way false e p at bs rest =
    choice_answers (some_empty bs) (BranchStart (spot way (Choice p at bs rest))) (HasEmpty bs) (culprit p []) (empty_to bs) (empty_from bs)
    (λ c. ⊎_elim (λ x. x) (λ o. absurd (not_first way _ c e o))) (λ c x. inl x)

-- at another statement
start_other : (way : Way) (first : Bool) → is_some (beginning way) ≡ first → (p : Place) (ss : Statements) → head_place ss ≡ Some p →
    BeginsOtherwise ss → ((c : Culprit) → EmptyBranch ss c → ⊥) →
    Answers (BranchStart (spot way ss)) (unless (not first) (culprit p []))
start_other [] true e p ss at begins none = absurd (true≢false (sym e))
start_other (Past s ∷ way) true e p ss at begins none = absurd (true≢false (sym e))
start_other (Opens name ∷ way) true e p ss at begins none = absurd (true≢false (sym e))
start_other (Enters a earlier ∷ way) true e p ss at begins none = inr (p, at, refl, begins)
start_other way false e p ss at begins none = λ c. ⊎_elim (none c) (not_first way ss c e)

start_message : (way : Way) (m : Message) (rest : Statements) (c : Culprit) → OtherStart (spot way (Says m rest)) c → ⊥
start_message [] m rest c a = a
start_message (Past s ∷ way) m rest c a = a
start_message (Opens name ∷ way) m rest c a = a
start_message (Enters at earlier ∷ way) m rest c a = a.3

start_nothing : (way : Way) (c : Culprit) → OtherStart (spot way Nothing) c → ⊥
start_nothing [] c a = a
start_nothing (Past s ∷ way) c a = a
start_nothing (Opens name ∷ way) c a = a
start_nothing (Enters at earlier ∷ way) c a = a.3

start_answers : (way : Way) (ss : Statements) → Answers (BranchStart (spot way ss)) (branch_start (is_some (beginning way)) ss)
start_answers way Nothing = λ c. ⊎_elim (λ x. x) (start_nothing way c)
start_answers way (Says m rest) = λ c. ⊎_elim (λ x. x) (start_message way m rest c)
start_answers way (Choice p at bs rest) = start_choice way (is_some (beginning way)) refl p at bs rest
start_answers way (Rec p name body rest) = start_other way (is_some (beginning way)) refl p (Rec p name body rest) refl tt (λ c x. x)
start_answers way (Continue p name rest) = start_other way (is_some (beginning way)) refl p (Continue p name rest) refl tt (λ c x. x)
start_answers way (Do p name rest) = start_other way (is_some (beginning way)) refl p (Do p name rest) refl tt (λ c x. x)

pub start_right : AsksRight BranchStart (λ begins around. branch_start (is_some begins))
start_right = record { asks = λ around way ss a. start_answers way ss }

-- a label that Java reserves
label_answers : (me : Name) (way : Way) (ss : Statements) → Answers (ReservedLabel me (spot way ss)) (reserved_label me (beginning way) ss)
label_answers me [] ss = λ c x. x
label_answers me (Past s ∷ way) ss = λ c x. x
label_answers me (Opens name ∷ way) ss = λ c x. x
label_answers me (Enters at earlier ∷ way) Nothing = λ c x. x
label_answers me (Enters at earlier ∷ way) (Says m rest) = free_answers (is_free_label me at m.label) refl
  where
    free_answers : (b : Bool) → is_free_label me at m.label ≡ b → Answers (ReservedLabel me (spot (Enters at earlier ∷ way) (Says m rest)))
        (unless b (culprit m.place m.label))
    free_answers true e = λ c x. free_is_none me at m.label e x.1 x.2
    free_answers false e = let h = not_free me at m.label e in (refl, h.0, h.1)
label_answers me (Enters at earlier ∷ way) (Choice p x bs rest) = λ c x. x
label_answers me (Enters at earlier ∷ way) (Rec p name body rest) = λ c x. x
label_answers me (Enters at earlier ∷ way) (Continue p name rest) = λ c x. x
label_answers me (Enters at earlier ∷ way) (Do p name rest) = λ c x. x

pub label_right : (me : Name) → AsksRight (ReservedLabel me) (λ begins around. reserved_label me begins)
label_right me = record { asks = λ around way ss a. label_answers me way ss }
