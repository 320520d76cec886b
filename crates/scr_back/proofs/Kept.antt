-- The conditions of statements hold of the same statements at other places.
use Rattle.std.proofs.Common.{◌≡◌, ⊎_elim, inl, inr, true, false, List, [], ◌∷◌, map, Some, Contains, refl, sym, ap, subst, ◌∙◌}
use Rattle.mg_text.specs.Call.{Name}
use Rattle.mg_text.specs.JavaWords.{java_words}
use Rattle.mg_text.specs.declared.place.Place.{Place}
use Rattle.mg_read.specs.Culprit.{Culprit, culprit}
use Rattle.scr_tree.specs.declared.syntax.Message.{Message}
use Rattle.scr_tree.specs.Meaning.{message_of, towards}
use Rattle.scr_tree.specs.CallNames.{message_call}
use Rattle.std.specs.Str.{bytes_eq}
use Rattle.scr_tree.specs.Tree.{Statements, Nothing, Says, Choice, Rec, Continue, Do, Branches, NoBranch, Branch}
use Rattle.scr_tree.specs.Spots.{Past, Opens, Enters, Spot, spot, head_place}
use Rattle.scr_tree.specs.Control.{Quietly}
use Rattle.scr_tree.specs.Conditions.{UnknownRole, PeerIsSelf, UnknownRec, DuplicateRec, Unguarded, Unreachable, HasEmpty, BeginsOtherwise}
use Rattle.scr_tree.specs.Conditions.{EmptyBranch, OtherStart, BranchStart, AllSend, AllFrom, IsUniform, MixedChoice, key, first_key}
use Rattle.scr_tree.specs.Conditions.{SameLabel, ReservedLabel}
use Rattle.scr_back.specs.Same.{IsSameMessage, AreSame, AreSameBranches}
use Rattle.scr_back.proofs.Spots.{Zip, SameSpot, falls_same, inside_right, inside_left, quiet_same}

-- what a message is, places aside
pub meant_same : (m n : Message) → IsSameMessage m n → message_of m ≡ message_of n
meant_same m n h = λ i. towards (h.direction i) (h.peer i) (h.label i) (h.payload i)

-- at fault here where it is at fault there
abbrev pub Follows : (Spot → Culprit → Type 0) → Type 0
Follows At = (x y : Spot) → SameSpot x y → (c : Culprit) → At y c → (d : Culprit) × At x d

pub role_kept : (roles : List Name) → Follows (UnknownRole roles)
role_kept roles (spot w s) (spot v t) h = go s t h.1
  where
    go : (s t : Statements) → AreSame s t → (c : Culprit) → UnknownRole roles (spot v t) c → (d : Culprit) × UnknownRole roles (spot w s) d
    go (Says m r) (Says n o) e c a = (culprit m.place m.peer, (refl, λ l. a.1 (subst (Contains roles) e.0.peer l)))
    go (Choice p at bs r) (Choice q by cs o) e c a = (culprit p at, (refl, λ l. a.1 (subst (Contains roles) e.0 l)))
    go Nothing Nothing e c a = absurd a
    go (Rec p name body r) (Rec q word inner o) e c a = absurd a
    go (Continue p name r) (Continue q word o) e c a = absurd a
    go (Do p name r) (Do q word o) e c a = absurd a
    go _ _ e c a = absurd e

pub self_kept : (me : Name) → Follows (PeerIsSelf me)
self_kept me (spot w s) (spot v t) h = go s t h.1
  where
    go : (s t : Statements) → AreSame s t → (c : Culprit) → PeerIsSelf me (spot v t) c → (d : Culprit) × PeerIsSelf me (spot w s) d
    go (Says m r) (Says n o) e c a = (culprit m.place [], (refl, e.0.peer ∙ a.1))
    go (Choice p at bs r) (Choice q by cs o) e c a = absurd a
    go Nothing Nothing e c a = absurd a
    go (Rec p name body r) (Rec q word inner o) e c a = absurd a
    go (Continue p name r) (Continue q word o) e c a = absurd a
    go (Do p name r) (Do q word o) e c a = absurd a
    go _ _ e c a = absurd e

pub rec_kept : Follows UnknownRec
rec_kept (spot w s) (spot v t) h = go s t h.1
  where
    go : (s t : Statements) → AreSame s t → (c : Culprit) → UnknownRec (spot v t) c → (d : Culprit) × UnknownRec (spot w s) d
    go (Continue p name r) (Continue q word o) e c a =
        (culprit p name, (refl, λ l. a.1 (inside_right w v word h.0 (subst (λ z. Contains w (Opens z)) e.0 l))))
    go (Do p name r) (Do q word o) e c a = absurd a
    go Nothing Nothing e c a = absurd a
    go (Says m r) (Says n o) e c a = absurd a
    go (Choice p at bs r) (Choice q by cs o) e c a = absurd a
    go (Rec p name body r) (Rec q word inner o) e c a = absurd a
    go _ _ e c a = absurd e

pub twice_kept : Follows DuplicateRec
twice_kept (spot w s) (spot v t) h = go s t h.1
  where
    go : (s t : Statements) → AreSame s t → (c : Culprit) → DuplicateRec (spot v t) c → (d : Culprit) × DuplicateRec (spot w s) d
    go (Rec p name body r) (Rec q word inner o) e c a =
        (culprit p name, (refl, subst (λ z. Contains w (Opens z)) (sym e.0) (inside_left w v word h.0 a.1)))
    go Nothing Nothing e c a = absurd a
    go (Says m r) (Says n o) e c a = absurd a
    go (Choice p at bs r) (Choice q by cs o) e c a = absurd a
    go (Continue p name r) (Continue q word o) e c a = absurd a
    go (Do p name r) (Do q word o) e c a = absurd a
    go _ _ e c a = absurd e

pub guard_kept : Follows Unguarded
guard_kept (spot w s) (spot v t) h = go s t h.1
  where
    go : (s t : Statements) → AreSame s t → (c : Culprit) → Unguarded (spot v t) c → (d : Culprit) × Unguarded (spot w s) d
    go (Continue p name r) (Continue q word o) e c a =
        (culprit p name, (refl, quiet_same w v name h.0 (subst (λ z. Quietly z v) (sym e.0) a.1)))
    go (Do p name r) (Do q word o) e c a = absurd a
    go Nothing Nothing e c a = absurd a
    go (Says m r) (Says n o) e c a = absurd a
    go (Choice p at bs r) (Choice q by cs o) e c a = absurd a
    go (Rec p name body r) (Rec q word inner o) e c a = absurd a
    go _ _ e c a = absurd e

-- where one list of statements begins, the other does too
begins_somewhere : (s t : Statements) → AreSame s t → (q : Place) → head_place t ≡ Some q → (p : Place) × (head_place s ≡ Some p)
begins_somewhere Nothing Nothing e q a = let no : ⊥ = cc in absurd no
begins_somewhere (Says m r) (Says n o) e q a = (m.place, refl)
begins_somewhere (Choice p at bs r) (Choice u by cs o) e q a = (p, refl)
begins_somewhere (Rec p name body r) (Rec u word inner o) e q a = (p, refl)
begins_somewhere (Continue p name r) (Continue u word o) e q a = (p, refl)
begins_somewhere (Do p name r) (Do u word o) e q a = (p, refl)
begins_somewhere _ _ e q a = absurd e

pub reach_kept : Follows Unreachable
reach_kept (spot [] s) (spot [] t) h c a = absurd a
reach_kept (spot (Past f ∷ w) s) (spot (Past g ∷ v) t) h c a =
    let p = begins_somewhere s t h.1 a.0 a.1 in (culprit p.0 [], (p.0, p.1, refl, falls_same f g h.0.0 ∙ a.3))
reach_kept (spot (Opens n ∷ w) s) (spot (Opens m ∷ v) t) h c a = absurd a
reach_kept (spot (Enters at es ∷ w) s) (spot (Enters by fs ∷ v) t) h c a = absurd a
reach_kept (spot [] s) (spot (r ∷ v) t) h c a = absurd h.0
reach_kept (spot (p ∷ w) s) (spot [] t) h c a = absurd h.0
reach_kept (spot (p ∷ w) s) (spot (r ∷ v) t) h c a = absurd h.0.0

empty_kept : (s t : Statements) → AreSame s t → t ≡ Nothing → s ≡ Nothing
empty_kept Nothing Nothing e a = refl
empty_kept (Says m r) (Says n o) e a = let no : ⊥ = cc in absurd no
empty_kept (Choice p at bs r) (Choice u by cs o) e a = let no : ⊥ = cc in absurd no
empty_kept (Rec p name body r) (Rec u word inner o) e a = let no : ⊥ = cc in absurd no
empty_kept (Continue p name r) (Continue u word o) e a = let no : ⊥ = cc in absurd no
empty_kept (Do p name r) (Do u word o) e a = let no : ⊥ = cc in absurd no
empty_kept _ _ e a = absurd e

has_empty_kept : (bs cs : Branches) → AreSameBranches bs cs → HasEmpty cs → HasEmpty bs
has_empty_kept NoBranch NoBranch e a = a
has_empty_kept (Branch b more) (Branch d others) e a = ⊎_elim (λ n. inl (empty_kept b d e.0 n))
    (λ m. inr (has_empty_kept more others e.1 m)) a
has_empty_kept _ _ e a = absurd e

otherwise_kept : (s t : Statements) → AreSame s t → BeginsOtherwise t → BeginsOtherwise s
otherwise_kept Nothing Nothing e a = a
otherwise_kept (Says m r) (Says n o) e a = a
otherwise_kept (Choice p at bs r) (Choice u by cs o) e a = tt
otherwise_kept (Rec p name body r) (Rec u word inner o) e a = tt
otherwise_kept (Continue p name r) (Continue u word o) e a = tt
otherwise_kept (Do p name r) (Do u word o) e a = tt
otherwise_kept _ _ e a = absurd e

empty_branch_kept : (s t : Statements) → AreSame s t → (c : Culprit) → EmptyBranch t c → (d : Culprit) × EmptyBranch s d
empty_branch_kept (Choice p at bs r) (Choice q by cs o) e c a = (culprit p [], (refl, has_empty_kept bs cs e.1 a.1))
empty_branch_kept Nothing Nothing e c a = absurd a
empty_branch_kept (Says m r) (Says n o) e c a = absurd a
empty_branch_kept (Rec p name body r) (Rec u word inner o) e c a = absurd a
empty_branch_kept (Continue p name r) (Continue u word o) e c a = absurd a
empty_branch_kept (Do p name r) (Do u word o) e c a = absurd a
empty_branch_kept _ _ e c a = absurd e

other_start_kept : Follows OtherStart
other_start_kept (spot [] s) (spot [] t) h c a = absurd a
other_start_kept (spot (Past f ∷ w) s) (spot (Past g ∷ v) t) h c a = absurd a
other_start_kept (spot (Opens n ∷ w) s) (spot (Opens m ∷ v) t) h c a = absurd a
other_start_kept (spot (Enters at es ∷ w) s) (spot (Enters by fs ∷ v) t) h c a =
    let p = begins_somewhere s t h.1 a.0 a.1 in (culprit p.0 [], (p.0, p.1, refl, otherwise_kept s t h.1 a.3))
other_start_kept (spot [] s) (spot (r ∷ v) t) h c a = absurd h.0
other_start_kept (spot (p ∷ w) s) (spot [] t) h c a = absurd h.0
other_start_kept (spot (p ∷ w) s) (spot (r ∷ v) t) h c a = absurd h.0.0

pub start_kept : Follows BranchStart
start_kept (spot w s) (spot v t) h c a =
    ⊎_elim (λ b. let d = empty_branch_kept s t h.1 c b in (d.0, inl d.1)) (λ b. let d = other_start_kept (spot w s) (spot v t) h c b in
    (d.0, inr d.1)) a

-- choices
all_send_kept : (bs cs : Branches) → AreSameBranches bs cs → AllSend bs → AllSend cs
all_send_kept NoBranch NoBranch e a = tt
all_send_kept (Branch Nothing more) (Branch Nothing others) e a = all_send_kept more others e.1 a
all_send_kept (Branch (Says m r) more) (Branch (Says n o) others) e a = (sym e.0.0.direction ∙ a.0, all_send_kept more others e.1 a.1)
all_send_kept (Branch (Choice p at bs r) more) (Branch (Choice q by cs o) others) e a = all_send_kept more others e.1 a
all_send_kept (Branch (Rec p name body r) more) (Branch (Rec u word inner o) others) e a = all_send_kept more others e.1 a
all_send_kept (Branch (Continue p name r) more) (Branch (Continue u word o) others) e a = all_send_kept more others e.1 a
all_send_kept (Branch (Do p name r) more) (Branch (Do u word o) others) e a = all_send_kept more others e.1 a
all_send_kept (Branch b more) (Branch d others) e a = absurd e.0
all_send_kept _ _ e a = absurd e

all_from_kept : (peer : Name) (bs cs : Branches) → AreSameBranches bs cs → AllFrom peer bs → AllFrom peer cs
all_from_kept peer NoBranch NoBranch e a = tt
all_from_kept peer (Branch Nothing more) (Branch Nothing others) e a = all_from_kept peer more others e.1 a
all_from_kept peer (Branch (Says m r) more) (Branch (Says n o) others) e a =
    (sym e.0.0.direction ∙ a.0, sym e.0.0.peer ∙ a.1, all_from_kept peer more others e.1 a.2)
all_from_kept peer (Branch (Choice p at bs r) more) (Branch (Choice q by cs o) others) e a = all_from_kept peer more others e.1 a
all_from_kept peer (Branch (Rec p name body r) more) (Branch (Rec u word inner o) others) e a = all_from_kept peer more others e.1 a
all_from_kept peer (Branch (Continue p name r) more) (Branch (Continue u word o) others) e a = all_from_kept peer more others e.1 a
all_from_kept peer (Branch (Do p name r) more) (Branch (Do u word o) others) e a = all_from_kept peer more others e.1 a
all_from_kept peer (Branch b more) (Branch d others) e a = absurd e.0
all_from_kept peer _ _ e a = absurd e

uniform_kept : (me at by : Name) (bs cs : Branches) → at ≡ by → AreSameBranches bs cs → IsUniform me at bs → IsUniform me by cs
uniform_kept me at by bs cs e g (inl h) = inl (sym e ∙ h.0, all_send_kept bs cs g h.1)
uniform_kept me at by bs cs e g (inr h) = inr ((λ same. h.0 (e ∙ same)), h.1, all_from_kept h.1 bs cs g h.2)

pub mixed_kept : (me : Name) → Follows (MixedChoice me)
mixed_kept me (spot w s) (spot v t) h = go s t h.1
  where
    go : (s t : Statements) → AreSame s t → (c : Culprit) → MixedChoice me (spot v t) c → (d : Culprit) × MixedChoice me (spot w s) d
    go (Choice p at bs r) (Choice q by cs o) e c a = (culprit p [], (refl, λ u. a.1 (uniform_kept me at by bs cs e.0 e.1 u)))
    go Nothing Nothing e c a = absurd a
    go (Says m r) (Says n o) e c a = absurd a
    go (Rec p name body r) (Rec u word inner o) e c a = absurd a
    go (Continue p name r) (Continue u word o) e c a = absurd a
    go (Do p name r) (Do u word o) e c a = absurd a
    go _ _ e c a = absurd e

key_same : (me at by : Name) (m n : Message) → at ≡ by → IsSameMessage m n → key me at m ≡ key me by n
key_same me at by m n e h = λ i. elim (bytes_eq (e i) me) [ true ↦ message_call (meant_same m n h i) | false ↦ h.label i ]

first_key_same : (me at by : Name) (s t : Statements) → at ≡ by → AreSame s t → first_key me at s ≡ first_key me by t
first_key_same me at by Nothing Nothing e h = refl
first_key_same me at by (Says m r) (Says n o) e h = ap Some (key_same me at by m n e h.0)
first_key_same me at by (Choice p a bs r) (Choice q b cs o) e h = refl
first_key_same me at by (Rec p name body r) (Rec u word inner o) e h = refl
first_key_same me at by (Continue p name r) (Continue u word o) e h = refl
first_key_same me at by (Do p name r) (Do u word o) e h = refl
first_key_same me at by _ _ e h = absurd h

keys_same : (me at by : Name) (es fs : List Statements) → at ≡ by → Zip AreSame es fs → map (first_key me at) es ≡ map (first_key me by) fs
keys_same me at by [] [] e z = refl
keys_same me at by (x ∷ es) (y ∷ fs) e z = λ i. first_key_same me at by x y e z.0 i ∷ keys_same me at by es fs e z.1 i
keys_same me at by [] (y ∷ fs) e z = absurd z
keys_same me at by (x ∷ es) [] e z = absurd z

pub label_kept : (me : Name) → Follows (SameLabel me)
label_kept me (spot [] s) (spot [] t) h c a = absurd a
label_kept me (spot (Past f ∷ w) s) (spot (Past g ∷ v) t) h c a = absurd a
label_kept me (spot (Opens n ∷ w) s) (spot (Opens m ∷ v) t) h c a = absurd a
label_kept me (spot (Enters at es ∷ w) s) (spot (Enters by fs ∷ v) t) h c a = go s t h.1 c a
  where
    go : (s t : Statements) → AreSame s t → (c : Culprit) → SameLabel me (spot (Enters by fs ∷ v) t) c →
        (d : Culprit) × SameLabel me (spot (Enters at es ∷ w) s) d
    go (Says m r) (Says n o) e c a = (
      culprit m.place m.label,
      (
        refl,
        subst (λ ks. Contains ks (Some (key me at m))) (sym (keys_same me at by es fs h.0.0.0 h.0.0.1))
            (subst (λ k. Contains (map (first_key me by) fs) (Some k)) (sym (key_same me at by m n h.0.0.0 e.0)) a.1),
      ),
    )
    go Nothing Nothing e c a = absurd a
    go (Choice p x bs r) (Choice q y cs o) e c a = absurd a
    go (Rec p name body r) (Rec u word inner o) e c a = absurd a
    go (Continue p name r) (Continue u word o) e c a = absurd a
    go (Do p name r) (Do u word o) e c a = absurd a
    go _ _ e c a = absurd e
label_kept me (spot [] s) (spot (r ∷ v) t) h c a = absurd h.0
label_kept me (spot (p ∷ w) s) (spot [] t) h c a = absurd h.0
label_kept me (spot (p ∷ w) s) (spot (r ∷ v) t) h c a = absurd h.0.0

pub free_kept : (me : Name) → Follows (ReservedLabel me)
free_kept me (spot [] s) (spot [] t) h c a = absurd a
free_kept me (spot (Past f ∷ w) s) (spot (Past g ∷ v) t) h c a = absurd a
free_kept me (spot (Opens n ∷ w) s) (spot (Opens m ∷ v) t) h c a = absurd a
free_kept me (spot (Enters at es ∷ w) s) (spot (Enters by fs ∷ v) t) h c a = go s t h.1 c a
  where
    go : (s t : Statements) → AreSame s t → (c : Culprit) → ReservedLabel me (spot (Enters by fs ∷ v) t) c →
        (d : Culprit) × ReservedLabel me (spot (Enters at es ∷ w) s) d
    go (Says m r) (Says n o) e c a =
        (culprit m.place m.label, (refl, (λ same. a.1 (sym h.0.0.0 ∙ same)), subst (Contains java_words) (sym e.0.label) a.2))
    go Nothing Nothing e c a = absurd a
    go (Choice p x bs r) (Choice q y cs o) e c a = absurd a
    go (Rec p name body r) (Rec u word inner o) e c a = absurd a
    go (Continue p name r) (Continue u word o) e c a = absurd a
    go (Do p name r) (Do u word o) e c a = absurd a
    go _ _ e c a = absurd e
free_kept me (spot [] s) (spot (r ∷ v) t) h c a = absurd h.0
free_kept me (spot (p ∷ w) s) (spot [] t) h c a = absurd h.0
free_kept me (spot (p ∷ w) s) (spot (r ∷ v) t) h c a = absurd h.0.0
