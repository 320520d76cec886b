-- The spots of a global protocol, and those of its outline, one by one.
use Rattle.std.proofs.Common.{◌≡◌, List, [], ◌∷◌, ◌++◌, map, Bool, true, false, ◌&&◌, ◌||◌, Option, Some, None, refl, sym, ap, ◌∙◌}
use Rattle.mg_text.specs.Call.{Name}
use Rattle.mg_read.specs.Culprit.{Culprit}
use Rattle.mg_read.specs.First.{Judged, clean, here, later}
use Rattle.scr_tree.specs.Tree as local
use Rattle.scr_tree.specs.Spots as local_spots
use Rattle.scr_tree.specs.Control as control
use Rattle.scr_tree.specs.Conditions.{first_key}
use Rattle.scr_global.specs.Tree.{Statements, Nothing, Says, Choice, Rec, Continue, Branches, NoBranch, Branch}
use Rattle.scr_global.specs.Spots.{Past, Opens, Enters, Way, Spot, spot, spots, branch_spots, falls, some_falls, passes, some_passes}
use Rattle.scr_global.specs.Conditions.{first_label}
use Rattle.scr_global_judge.specs.inner.Outline.{outlined, outlined_each}

-- the name of the role that makes no choice of an outline
abbrev pub nobody : Name
nobody = 95 ∷ []

-- ---- control goes through an outline as it goes through the protocol

mutual
  falls_is : (begins : Option Name) (s : Statements) → falls s ≡ control.falls (outlined begins s)
  falls_is begins Nothing = refl
  falls_is begins (Says m rest) = falls_is None rest
  falls_is begins (Choice place at branches rest) = λ i. some_falls_is at branches i && falls_is None rest i
  falls_is begins (Rec place name body rest) = λ i. falls_is None body i && falls_is None rest i
  falls_is begins (Continue place name rest) = refl

  some_falls_is : (at : Name) (bs : Branches) → some_falls bs ≡ control.some_falls (outlined_each at bs)
  some_falls_is at NoBranch = refl
  some_falls_is at (Branch b more) = λ i. falls_is (Some at) b i || some_falls_is at more i

mutual
  passes_is : (begins : Option Name) (s : Statements) → passes s ≡ control.passes (outlined begins s)
  passes_is begins Nothing = refl
  passes_is begins (Says m rest) = refl
  passes_is begins (Choice place at branches rest) = λ i. some_passes_is at branches i && passes_is None rest i
  passes_is begins (Rec place name body rest) = λ i. passes_is None body i && passes_is None rest i
  passes_is begins (Continue place name rest) = refl

  some_passes_is : (at : Name) (bs : Branches) → some_passes bs ≡ control.some_passes (outlined_each at bs)
  some_passes_is at NoBranch = refl
  some_passes_is at (Branch b more) = λ i. passes_is (Some at) b i || some_passes_is at more i

-- ---- ways

pub data Like : Way → local_spots.Way → Type 0 where
  start : Like [] []
  past : {way : Way} {other : local_spots.Way} (s : Statements) (t : local.Statements) → falls s ≡ control.falls t →
      passes s ≡ control.passes t → Like way other →
      Like (Past s ∷ way) (local_spots.Past t ∷ other)
  opens : {way : Way} {other : local_spots.Way} (name : Name) → Like way other → Like (Opens name ∷ way) (local_spots.Opens name ∷ other)
  enters : {way : Way} {other : local_spots.Way} (at : Name) (earlier : List Statements) (before : List local.Statements) →
      map first_label earlier ≡ map (first_key nobody []) before →
      Like way other → Like (Enters at earlier ∷ way) (local_spots.Enters [] before ∷ other)

-- the role of the choice whose branch begins here
abbrev pub beginning : Way → Option Name
beginning (Enters at earlier ∷ way) = Some at
beginning _ = None

pub data Paired : Spot → local_spots.Spot → Type 0 where
  pair : {way : Way} {other : local_spots.Way} (s : Statements) → Like way other →
      Paired (spot way s) (local_spots.spot other (outlined (beginning way) s))

abbrev pub Pairs : List Spot → List local_spots.Spot → Type 0
Pairs [] [] = Unit {0}
Pairs (x ∷ xs) (y ∷ ys) = Paired x y × Pairs xs ys
Pairs _ _ = ⊥

pairs_append : (xs : List Spot) (ys : List local_spots.Spot) (us : List Spot) (vs : List local_spots.Spot) → Pairs xs ys → Pairs us vs →
    Pairs (xs ++ us) (ys ++ vs)
pairs_append [] [] us vs p q = q
pairs_append [] (y ∷ ys) us vs p q = absurd p
pairs_append (x ∷ xs) [] us vs p q = absurd p
pairs_append (x ∷ xs) (y ∷ ys) us vs p q = (p.0, pairs_append xs ys us vs p.1 q)

label_is : (at : Name) (b : Statements) → first_label b ≡ first_key nobody [] (outlined (Some at) b)
label_is at Nothing = refl
label_is at (Says m rest) = refl
label_is at (Choice place other branches rest) = refl
label_is at (Rec place name body rest) = refl
label_is at (Continue place name rest) = refl

mutual
  pub pairs : (way : Way) (other : local_spots.Way) (s : Statements) → Like way other →
      Pairs (spots way s) (local_spots.spots other (outlined (beginning way) s))
  pairs way other Nothing l = tt
  pairs way other (Says m rest) l = (pair (Says m rest) l, pairs _ _ rest (past (Says m Nothing) _ refl refl l))
  pairs way other (Choice place at branches rest) l = (
    pair (Choice place at branches rest) l,
    pairs_append (branch_spots way at [] branches) (local_spots.branch_spots other [] [] (outlined_each at branches)) _ _
        (branch_pairs way other at [] [] branches refl l)
        (pairs _ _ rest (past (Choice place at branches Nothing) _ (falls_is None (Choice place at branches Nothing))
        (passes_is None (Choice place at branches Nothing)) l)),
  )
  pairs way other (Rec place name body rest) l = (
    pair (Rec place name body rest) l,
    pairs_append (spots (Opens name ∷ way) body) (local_spots.spots (local_spots.Opens name ∷ other) (outlined None body)) _ _
        (pairs _ _ body (opens name l))
        (pairs _ _ rest (past (Rec place name body Nothing) _ (falls_is None (Rec place name body Nothing))
        (passes_is None (Rec place name body Nothing)) l)),
  )
  pairs way other (Continue place name rest) l =
      (pair (Continue place name rest) l, pairs _ _ rest (past (Continue place name Nothing) _ refl refl l))

  branch_pairs : (way : Way) (other : local_spots.Way) (at : Name) (earlier : List Statements) (before : List local.Statements)
      (bs : Branches) →
      map first_label earlier ≡ map (first_key nobody []) before → Like way other → Pairs (branch_spots way at earlier bs)
      (local_spots.branch_spots other [] before (outlined_each at bs))
  branch_pairs way other at earlier before NoBranch e l = tt
  branch_pairs way other at earlier before (Branch b more) e l =
      pairs_append (spots (Enters at earlier ∷ way) b) (local_spots.spots (local_spots.Enters [] before ∷ other) (outlined (Some at) b)) _ _
      (pairs _ _ b (enters at earlier before e l))
      (branch_pairs way other at (b ∷ earlier) (outlined (Some at) b ∷ before) more (λ i. label_is at b i ∷ e i) l)

-- ---- what is judged over the outline is judged over the protocol

module _ (At : Spot → Culprit → Type 0) (By : local_spots.Spot → Culprit → Type 0) where
  abbrev pub SameAt : Type 0
  SameAt = (x : Spot) (y : local_spots.Spot) → Paired x y → (c : Culprit) → (At x c → By y c) × (By y c → At x c)

  judged_over : SameAt → (xs : List Spot) {ys : List local_spots.Spot} {r : Option Culprit} → Judged By ys r → Pairs xs ys → Judged At xs r
  judged_over same [] clean p = clean
  judged_over same (x ∷ xs) clean p = absurd p
  judged_over same [] (here a) p = absurd p
  judged_over same (x ∷ xs) (here {x = y} {c = c} a) p = here ((same x y p.0 c).1 a)
  judged_over same [] (later n j) p = absurd p
  judged_over same (x ∷ xs) (later {x = y} n j) p = later (λ c a. n c ((same x y p.0 c).0 a)) (judged_over same xs j p.1)

  pub judged_outline : SameAt → (s : Statements) (r : Option Culprit) → Judged By (local_spots.spots [] (outlined None s)) r →
      Judged At (spots [] s) r
  judged_outline same s r j = judged_over same (spots [] s) j (pairs [] [] s start)
