-- Statements that are the same have the same actions and as many states, places aside.
use Rattle.std.proofs.Common.{◌≡◌, ℕ, suc, Bool, true, false, cond, not, List, [], ◌∷◌, ◌++◌, length, Option, Some, None, Contains, refl}
use Rattle.std.proofs.Common.{sym, ap, subst, ◌∙◌, ⊎_elim, true≢false}
use Rattle.std.specs.List.{filter}
use Rattle.std.specs.Str.{bytes_eq}
use Rattle.mg_text.specs.Call.{Name}
use Rattle.mg_text.specs.declared.place.Place.{Place}
use Rattle.mg_read.specs.Culprit.{culprit}
use Rattle.mg_read.specs.First.{Clean, behind}
use Rattle.scr_tree.specs.Actions.{Action, Moves, NameClash, actions, actions_in, next, next_in, opened, looked_unless, peer_in}
use Rattle.scr_tree.specs.CallNames.{message_call}
use Rattle.scr_tree.specs.States.{begins, is_state}
use Rattle.scr_tree.specs.Tree.{Statements, Nothing, Says, Choice, Rec, Continue, Do, Branches, NoBranch, Branch}
use Rattle.scr_tree.specs.Spots.{Past, Opens, Enters, Way, Spot, spot}
use Rattle.scr_judge.proofs.Members.{Contains-nil, Contains-cons_cases, Contains-first, Contains-later}
use Rattle.scr_back.specs.Same.{AreSame, AreSameBranches}
use Rattle.scr_back.proofs.Spots.{Zip, zip-append, SameWay, SameSpot}
use Rattle.scr_back.proofs.Kept.{meant_same}

mutual
  pub next_same : (me : Name) (n : ℕ) (s t : Statements) → AreSame s t → next me n s ≡ next me n t
  next_same me n Nothing Nothing e = refl
  next_same me n (Says m r) (Says k o) e = next_same me n r o e.1
  next_same me n (Choice p at bs r) (Choice q by cs o) e =
      ap (λ z. next me (next_in me (opened (bytes_eq z me) n) bs) r) e.0
      ∙ ap (λ z. next me z r) (next_in_same me (opened (bytes_eq by me) n) bs cs e.1) ∙ next_same me _ r o e.2
  next_same me n (Rec p name body r) (Rec q word inner o) e = ap (λ z. next me z r) (next_same me n body inner e.1) ∙ next_same me _ r o e.2
  next_same me n (Continue p name r) (Continue q word o) e = next_same me n r o e.1
  next_same me n (Do p name r) (Do q word o) e = next_same me n r o e.1
  next_same me n _ _ e = absurd e

  next_in_same : (me : Name) (n : ℕ) (bs cs : Branches) → AreSameBranches bs cs → next_in me n bs ≡ next_in me n cs
  next_in_same me n NoBranch NoBranch e = refl
  next_in_same me n (Branch b more) (Branch d others) e = ap (λ z. next_in me z more) (next_same me n b d e.0) ∙
      next_in_same me _ more others e.1
  next_in_same me n _ _ e = absurd e

peer_same : (bs cs : Branches) → AreSameBranches bs cs → peer_in bs ≡ peer_in cs
peer_same NoBranch NoBranch e = refl
peer_same (Branch Nothing more) (Branch Nothing others) e = refl
peer_same (Branch (Says m r) more) (Branch (Says n o) others) e = ap Some e.0.0.peer
peer_same (Branch (Choice p at ds r) more) (Branch (Choice q by cs o) others) e = refl
peer_same (Branch (Rec p name body r) more) (Branch (Rec q word inner o) others) e = refl
peer_same (Branch (Continue p name r) more) (Branch (Continue q word o) others) e = refl
peer_same (Branch (Do p name r) more) (Branch (Do q word o) others) e = refl
peer_same (Branch b more) (Branch d others) e = absurd e.0
peer_same _ _ e = absurd e

-- actions that differ in their places at most
abbrev pub SameAction : Action → Action → Type 0
SameAction a b = (a.call ≡ b.call) × (a.deed ≡ b.deed)

looked_same : (self : Bool) (me : Name) (n : ℕ) (p q : Place) (o : Option Name) → Zip SameAction (looked_unless self me n p o)
    (looked_unless self me n q o)
looked_same true me n p q o = tt
looked_same false me n p q None = tt
looked_same false me n p q (Some peer) = ((refl, refl), tt)

mutual
  pub actions_same : (me : Name) (n : ℕ) (s t : Statements) → AreSame s t → Zip SameAction (actions me n s) (actions me n t)
  actions_same me n Nothing Nothing e = tt
  actions_same me n (Says m r) (Says k o) e =
      ((ap message_call (meant_same m k e.0), ap Moves (meant_same m k e.0)), actions_same me n r o e.1)
  actions_same me n (Choice p at bs r) (Choice q by cs o) e =
      subst (λ z. Zip SameAction (actions me n (Choice p at bs r)) (actions me n (Choice q z cs o))) e.0
      (zip-append SameAction (looked_unless (bytes_eq at me) me n p (peer_in bs)) _ (looked_unless (bytes_eq at me) me n q (peer_in cs)) _
      (subst (λ z. Zip SameAction (looked_unless (bytes_eq at me) me n p (peer_in bs)) (looked_unless (bytes_eq at me) me n q z))
      (peer_same bs cs e.1) (looked_same (bytes_eq at me) me n p q (peer_in bs)))
      (zip-append SameAction (actions_in me (opened (bytes_eq at me) n) bs) _ (actions_in me (opened (bytes_eq at me) n) cs) _
      (actions_in_same me (opened (bytes_eq at me) n) bs cs e.1)
      (subst (λ z. Zip SameAction (actions me (next_in me (opened (bytes_eq at me) n) bs) r) (actions me z o))
      (next_in_same me (opened (bytes_eq at me) n) bs cs e.1) (actions_same me _ r o e.2))))
  actions_same me n (Rec p name body r) (Rec q word inner o) e =
      zip-append SameAction (actions me n body) _ (actions me n inner) _ (actions_same me n body inner e.1)
      (subst (λ z. Zip SameAction (actions me (next me n body) r) (actions me z o)) (next_same me n body inner e.1)
      (actions_same me _ r o e.2))
  actions_same me n (Continue p name r) (Continue q word o) e = actions_same me n r o e.1
  actions_same me n (Do p name r) (Do q word o) e = actions_same me n r o e.1
  actions_same me n _ _ e = absurd e

  actions_in_same : (me : Name) (n : ℕ) (bs cs : Branches) → AreSameBranches bs cs →
      Zip SameAction (actions_in me n bs) (actions_in me n cs)
  actions_in_same me n NoBranch NoBranch e = tt
  actions_in_same me n (Branch b more) (Branch d others) e =
      zip-append SameAction (actions me n b) _ (actions me n d) _ (actions_same me n b d e.0)
      (subst (λ z. Zip SameAction (actions_in me (next me n b) more) (actions_in me z others)) (next_same me n b d e.0)
      (actions_in_same me _ more others e.1))
  actions_in_same me n _ _ e = absurd e

pub zip_member : {X Y : Type 0} (R : X → Y → Type 0) (xs : List X) (ys : List Y) → Zip R xs ys → (y : Y) → Contains ys y →
    (x : X) × Contains xs x × R x y
zip_member R [] [] z y c = absurd (Contains-nil y c)
zip_member R (x ∷ xs) (u ∷ us) z y c =
    ⊎_elim (λ same. (x, Contains-first xs x, subst (R x) same z.0))
    (λ m. let o = zip_member R xs us z.1 y m in (o.0, Contains-later xs x o.0 o.1, o.2)) (Contains-cons_cases us u y c)
zip_member R [] (u ∷ us) z y c = absurd z
zip_member R (x ∷ xs) [] z y c = absurd z

pub clash_kept : (es fs xs ys : List Action) → Zip SameAction es fs → Zip SameAction xs ys → Clean NameClash (behind es xs) →
    Clean NameClash (behind fs ys)
clash_kept es fs [] [] z g h = tt
clash_kept es fs (a ∷ xs) (b ∷ ys) z g h = (
  λ c x. let o = zip_member SameAction es fs z x.1 x.2 in h.0 (culprit a.place a.call) (
    refl,
    o.0,
    o.1,
    o.2.0 ∙ x.3 ∙ sym g.0.0,
    λ same. x.4
        (sym o.2.1 ∙ same ∙ g.0.1),
  ),
  clash_kept (es ++ a ∷ []) (fs ++ b ∷ []) xs ys (zip-append SameAction es (a ∷ []) fs (b ∷ []) z (g.0, tt)) g.1 h.1,
)
clash_kept es fs [] (b ∷ ys) z g h = absurd g
clash_kept es fs (a ∷ xs) [] z g h = absurd g

-- ---- states

begins_same : (me : Name) (w v : Way) → SameWay w v → begins me w ≡ begins me v
begins_same me [] [] h = refl
begins_same me (Past s ∷ w) (Past t ∷ v) h = refl
begins_same me (Opens n ∷ w) (Opens m ∷ v) h = refl
begins_same me (Enters at es ∷ w) (Enters by fs ∷ v) h = ap (λ z. bytes_eq z me) h.0.0
begins_same me [] (r ∷ v) h = absurd h
begins_same me (p ∷ w) [] h = absurd h
begins_same me (p ∷ w) (r ∷ v) h = absurd h.0

state_same : (me : Name) (x y : Spot) → SameSpot x y → is_state me x ≡ is_state me y
state_same me (spot w s) (spot v t) h = go s t h.1
  where
    go : (s t : Statements) → AreSame s t → is_state me (spot w s) ≡ is_state me (spot v t)
    go Nothing Nothing e = refl
    go (Says m r) (Says n o) e = ap not (begins_same me w v h.0)
    go (Choice p at bs r) (Choice q by cs o) e = refl
    go (Rec p name body r) (Rec q word inner o) e = refl
    go (Continue p name r) (Continue q word o) e = refl
    go (Do p name r) (Do q word o) e = refl
    go _ _ e = absurd e

picked : (b d : Bool) → b ≡ d → (x y : Spot) (us vs : List Spot) → length us ≡ length vs → length (cond b (x ∷ us) us)
    ≡ length (cond d (y ∷ vs) vs)
picked true true e x y us vs h = ap suc h
picked false false e x y us vs h = h
picked true false e x y us vs h = absurd (true≢false e)
picked false true e x y us vs h = absurd (true≢false (sym e))

pub count_same : (me : Name) (xs ys : List Spot) → Zip SameSpot xs ys → length (filter (is_state me) xs) ≡ length (filter (is_state me) ys)
count_same me [] [] z = refl
count_same me (x ∷ xs) (y ∷ ys) z =
    picked (is_state me x) (is_state me y) (state_same me x y z.0) x y (filter (is_state me) xs) (filter (is_state me) ys)
    (count_same me xs ys z.1)
count_same me [] (y ∷ ys) z = absurd z
count_same me (x ∷ xs) [] z = absurd z
