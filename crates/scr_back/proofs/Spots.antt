-- Statements that are the same have the same spots, places aside.
use Rattle.std.proofs.Common.{◌≡◌, ⊎_elim, Bool, true, false, ◌&&◌, ◌||◌, List, [], ◌∷◌, ◌++◌, Contains, Decides, refl, sym, ap, subst, ◌∙◌}
use Rattle.std.proofs.Common.{true≢false}
use Rattle.std.specs.Str.{bytes_eq}
use Rattle.std.proofs.lemmas.Slice.Eq.{bytes_eq-Decides}
use Rattle.mg_text.specs.Call.{Name}
use Rattle.mg_read.specs.Culprit.{Culprit}
use Rattle.mg_read.specs.First.{Clean}
use Rattle.scr_tree.specs.Tree.{Statements, Nothing, Says, Choice, Rec, Continue, Do, Branches, NoBranch, Branch}
use Rattle.scr_tree.specs.Spots.{Passage, Past, Opens, Enters, Way, Spot, spot, spots, branch_spots}
use Rattle.scr_tree.specs.Control.{falls, some_falls, passes, some_passes, Quietly, opened, past, opening, entering}
use Rattle.scr_judge.proofs.Members.{Contains-cons_cases, Contains-first, Contains-later}
use Rattle.scr_judge.proofs.Quiet.{quietly_past, quietly_in, quietly_opened}
use Rattle.scr_back.specs.Same.{AreSame, AreSameBranches}

-- two lists, element by element
abbrev pub Zip : {X Y : Type 0} → (X → Y → Type 0) → List X → List Y → Type 0
Zip R [] [] = Unit {0}
Zip R (x ∷ xs) (y ∷ ys) = R x y × Zip R xs ys
Zip R _ _ = ⊥

pub zip-append : {X Y : Type 0} (R : X → Y → Type 0) (xs us : List X) (ys vs : List Y) → Zip R xs ys → Zip R us vs →
    Zip R (xs ++ us) (ys ++ vs)
zip-append R [] us [] vs h g = g
zip-append R (x ∷ xs) us (y ∷ ys) vs h g = (h.0, zip-append R xs us ys vs h.1 g)
zip-append R [] us (y ∷ ys) vs h g = absurd h
zip-append R (x ∷ xs) us [] vs h g = absurd h

abbrev pub SamePassage : Passage → Passage → Type 0
SamePassage (Past s) (Past t) = AreSame s t
SamePassage (Opens n) (Opens m) = n ≡ m
SamePassage (Enters at es) (Enters by fs) = (at ≡ by) × Zip AreSame es fs
SamePassage _ _ = ⊥

abbrev pub SameWay : Way → Way → Type 0
SameWay = Zip SamePassage

abbrev pub SameSpot : Spot → Spot → Type 0
SameSpot (spot w s) (spot v t) = SameWay w v × AreSame s t

mutual
  pub spots_same : (w v : Way) (s t : Statements) → SameWay w v → AreSame s t → Zip SameSpot (spots w s) (spots v t)
  spots_same w v Nothing Nothing h e = tt
  spots_same w v (Says m r) (Says n o) h e = ((h, e), spots_same _ _ r o ((e.0, tt), h) e.1)
  spots_same w v (Choice p at bs r) (Choice q by cs o) h e = (
    (h, e),
    zip-append SameSpot (branch_spots w at [] bs) _ (branch_spots v by [] cs) _
        (branches_same w v at by [] [] bs cs h e.0 tt e.1) (spots_same _ _ r o ((e.0, e.1, tt), h) e.2),
  )
  spots_same w v (Rec p name body r) (Rec q word inner o) h e = (
    (h, e),
    zip-append SameSpot (spots (Opens name ∷ w) body) _ (spots (Opens word ∷ v) inner) _ (spots_same _ _ body inner (e.0, h) e.1)
        (spots_same _ _ r o ((e.0, e.1, tt), h) e.2),
  )
  spots_same w v (Continue p name r) (Continue q word o) h e = ((h, e), spots_same _ _ r o ((e.0, tt), h) e.1)
  spots_same w v (Do p name r) (Do q word o) h e = ((h, e), spots_same _ _ r o ((e.0, tt), h) e.1)
  spots_same w v _ _ h e = absurd e

  branches_same : (w v : Way) (at by : Name) (es fs : List Statements) (bs cs : Branches) → SameWay w v → at ≡ by → Zip AreSame es fs →
      AreSameBranches bs cs →
      Zip SameSpot (branch_spots w at es bs) (branch_spots v by fs cs)
  branches_same w v at by es fs NoBranch NoBranch h e z g = tt
  branches_same w v at by es fs (Branch b more) (Branch d others) h e z g =
      zip-append SameSpot (spots (Enters at es ∷ w) b) _ (spots (Enters by fs ∷ v) d) _ (spots_same _ _ b d ((e, z), h) g.0)
      (branches_same w v at by (b ∷ es) (d ∷ fs) more others h e (g.0, z) g.1)
  branches_same w v at by es fs _ _ h e z g = absurd g

-- a condition that is at fault at the same spots is clean where it is clean
pub clean_same : (At By : Spot → Culprit → Type 0) → ((x y : Spot) → SameSpot x y → (c : Culprit) → By y c → (d : Culprit) × At x d) →
    (xs ys : List Spot) → Zip SameSpot xs ys → Clean At xs → Clean By ys
clean_same At By f [] [] z h = tt
clean_same At By f (x ∷ xs) (y ∷ ys) z h = ((λ c b. let d = f x y z.0 c b in h.0 d.0 d.1), clean_same At By f xs ys z.1 h.1)
clean_same At By f [] (y ∷ ys) z h = absurd z
clean_same At By f (x ∷ xs) [] z h = absurd z

-- ---- control

mutual
  pub falls_same : (s t : Statements) → AreSame s t → falls s ≡ falls t
  falls_same Nothing Nothing e = refl
  falls_same (Says m r) (Says n o) e = falls_same r o e.1
  falls_same (Choice p at bs r) (Choice q by cs o) e = λ i. some_falls_same bs cs e.1 i && falls_same r o e.2 i
  falls_same (Rec p name body r) (Rec q word inner o) e = λ i. falls_same body inner e.1 i && falls_same r o e.2 i
  falls_same (Continue p name r) (Continue q word o) e = refl
  falls_same (Do p name r) (Do q word o) e = refl
  falls_same _ _ e = absurd e

  some_falls_same : (bs cs : Branches) → AreSameBranches bs cs → some_falls bs ≡ some_falls cs
  some_falls_same NoBranch NoBranch e = refl
  some_falls_same (Branch b more) (Branch d others) e = λ i. falls_same b d e.0 i || some_falls_same more others e.1 i
  some_falls_same _ _ e = absurd e

mutual
  pub passes_same : (s t : Statements) → AreSame s t → passes s ≡ passes t
  passes_same Nothing Nothing e = refl
  passes_same (Says m r) (Says n o) e = refl
  passes_same (Choice p at bs r) (Choice q by cs o) e = λ i. some_passes_same bs cs e.1 i && passes_same r o e.2 i
  passes_same (Rec p name body r) (Rec q word inner o) e = λ i. passes_same body inner e.1 i && passes_same r o e.2 i
  passes_same (Continue p name r) (Continue q word o) e = refl
  passes_same (Do p name r) (Do q word o) e = refl
  passes_same _ _ e = absurd e

  some_passes_same : (bs cs : Branches) → AreSameBranches bs cs → some_passes bs ≡ some_passes cs
  some_passes_same NoBranch NoBranch e = refl
  some_passes_same (Branch b more) (Branch d others) e = λ i. passes_same b d e.0 i || some_passes_same more others e.1 i
  some_passes_same _ _ e = absurd e

-- ---- the way

opens_right : (p r : Passage) (q : Name) → SamePassage p r → p ≡ Opens q → r ≡ Opens q
opens_right (Past s) (Past t) q h e = let no : ⊥ = cc in absurd no
opens_right (Opens n) (Opens m) q h e = let same : n ≡ q = cc in ap Opens (sym h ∙ same)
opens_right (Enters at es) (Enters by fs) q h e = let no : ⊥ = cc in absurd no
opens_right _ _ q h e = absurd h

opens_left : (p r : Passage) (q : Name) → SamePassage p r → r ≡ Opens q → p ≡ Opens q
opens_left (Past s) (Past t) q h e = let no : ⊥ = cc in absurd no
opens_left (Opens n) (Opens m) q h e = let same : m ≡ q = cc in ap Opens (h ∙ same)
opens_left (Enters at es) (Enters by fs) q h e = let no : ⊥ = cc in absurd no
opens_left _ _ q h e = absurd h

at_front : (p : Passage) (w : Way) (q : Name) → p ≡ Opens q → Contains (p ∷ w) (Opens q)
at_front p w q e = subst (λ z. Contains (z ∷ w) (Opens q)) (sym e) (Contains-first w (Opens q))

pub inside_right : (w v : Way) (q : Name) → SameWay w v → Contains w (Opens q) → Contains v (Opens q)
inside_right [] [] q h c = c
inside_right (p ∷ w) (r ∷ v) q h c =
    ⊎_elim (λ e. at_front r v q (opens_right p r q h.0 e)) (λ m. Contains-later v r (Opens q) (inside_right w v q h.1 m))
    (Contains-cons_cases w p (Opens q) c)
inside_right [] (r ∷ v) q h c = absurd h
inside_right (p ∷ w) [] q h c = absurd h

pub inside_left : (w v : Way) (q : Name) → SameWay w v → Contains v (Opens q) → Contains w (Opens q)
inside_left [] [] q h c = c
inside_left (p ∷ w) (r ∷ v) q h c =
    ⊎_elim (λ e. at_front p w q (opens_left p r q h.0 e)) (λ m. Contains-later w p (Opens q) (inside_left w v q h.1 m))
    (Contains-cons_cases v r (Opens q) c)
inside_left [] (r ∷ v) q h c = absurd h
inside_left (p ∷ w) [] q h c = absurd h

opened_same : (w v : Way) (n m q : Name) → n ≡ m → (Quietly q v → Quietly q w) → (b : Bool) → Decides b (m ≡ q) → Quietly q (Opens m ∷ v) →
    Quietly q (Opens n ∷ w)
opened_same w v n m q e go true d k = subst (λ z. Quietly q (Opens z ∷ w)) (sym (e ∙ d.0 refl)) opened
opened_same w v n m q e go false d k = opening (go (quietly_opened _ k m v refl (λ same. true≢false (sym (d.1 same)))))

pub quiet_same : (w v : Way) (q : Name) → SameWay w v → Quietly q v → Quietly q w
quiet_same [] [] q h k = k
quiet_same (Past s ∷ w) (Past t ∷ v) q h k =
    let r = quietly_past _ k t v refl in past (passes_same s t h.0 ∙ r.0) (quiet_same w v q h.1 r.1)
quiet_same (Opens n ∷ w) (Opens m ∷ v) q h k = opened_same w v n m q h.0 (quiet_same w v q h.1) (bytes_eq m q) (bytes_eq-Decides m q) k
quiet_same (Enters at es ∷ w) (Enters by fs ∷ v) q h k = entering (quiet_same w v q h.1 (quietly_in _ k by fs v refl))
quiet_same [] (r ∷ v) q h k = absurd h
quiet_same (p ∷ w) [] q h k = absurd h
quiet_same (p ∷ w) (r ∷ v) q h k = absurd h.0
