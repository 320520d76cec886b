-- Protocols that are the same, places aside, go on as one another alike.
use Rattle.std.proofs.Common.{◌≡◌, List, [], ◌∷◌, ◌++◌, map, Contains, refl, sym, ap, subst, ◌∙◌}
use Rattle.mg_text.specs.Call.{Name}
use Rattle.mg_text.specs.declared.place.Place.{Place}
use Rattle.mg_read.specs.Culprit.{Culprit, culprit}
use Rattle.mg_read.specs.First.{Clean}
use Rattle.scr_tree.specs.Tree.{Titled, body_in, Statements, Nothing, Says, Choice, Rec, Continue, Do}
use Rattle.scr_tree.specs.Spots.{Past, Opens, Enters, Way, Spot, spot, spots, spots_of}
use Rattle.scr_tree.specs.Control.{AtOnce, starting, passing, into_rec, into_branch}
use Rattle.scr_tree.specs.Going.{GoesOn, Leads, there, onward, Unguarded}
use Rattle.scr_judge.proofs.Sought.{past_at, opens_at, enters_at}
use Rattle.scr_back.specs.Same.{AreSame}
use Rattle.scr_back.proofs.Spots.{Zip, SameWay, SameSpot, spots_same, passes_same}
use Rattle.scr_back.proofs.Kept.{guard_kept}
use Rattle.scr_back.proofs.Actions.{zip_member}

-- a protocol of the same name that says the same
abbrev pub SameTitle : Titled → Titled → Type 0
SameTitle t u = (t.name ≡ u.name) × AreSame t.body u.body

once_same : (w v : Way) → SameWay w v → AtOnce v → AtOnce w
once_same [] [] h a = starting
once_same (Past s ∷ w) (Past t ∷ v) h a = let r = past_at _ a t v refl in passing (passes_same s t h.0 ∙ r.0) (once_same w v h.1 r.1)
once_same (Opens n ∷ w) (Opens m ∷ v) h a = into_rec (once_same w v h.1 (opens_at _ a m v refl))
once_same (Enters at es ∷ w) (Enters by fs ∷ v) h a = into_branch (once_same w v h.1 (enters_at _ a by fs v refl))
once_same [] (r ∷ v) h a = absurd h
once_same (p ∷ w) [] h a = absurd h
once_same (p ∷ w) (r ∷ v) h a = absurd h.0

-- where a `do` stands at once
record Stands (xs : List Spot) (name : Name) : Type 0 where
  way : Way
  place : Place
  rest : Statements
  stands : Contains xs (spot way (Do place name rest))
  at_once : AtOnce way

stands_here : (xs : List Spot) (w v : Way) (s : Statements) (q : Place) (name : Name) (o : Statements) → Contains xs (spot w s) →
    SameSpot (spot w s) (spot v (Do q name o)) → AtOnce v → Stands xs name
stands_here xs w v s q name o c e a = go s c e.1
  where
    go : (s : Statements) → Contains xs (spot w s) → AreSame s (Do q name o) → Stands xs name
    go (Do p word r) c g = record {
      way = w;
      place = p;
      rest = r;
      stands = subst (λ n. Contains xs (spot w (Do p n r))) g.0 c;
      at_once =
          once_same w v e.0 a;
    }
    go Nothing c g = absurd g
    go (Says m r) c g = absurd g
    go (Choice p at bs r) c g = absurd g
    go (Rec p label body r) c g = absurd g
    go (Continue p label r) c g = absurd g

module _ (all us : List Titled) (z : Zip SameTitle all us) where
  goes_same : (from to : Name) → GoesOn us from to → GoesOn all from to
  goes_same from to g =
      let t = zip_member SameTitle all us z _ g.there in
      let x = zip_member SameSpot (spots [] t.0.body) (spots [] g.body) (spots_same [] [] t.0.body g.body tt t.2.1) _ g.stands in
      let s = by_spot t.0 x.0 x.1 g.way g.place g.rest x.2 g.at_once in
      record {
        body = t.0.body;
        there = subst (λ n. Contains all (record { name = n; body = t.0.body })) t.2.0 t.1;
        way = s.way;
        place = s.place;
        rest = s.rest;
        stands = s.stands;
        at_once = s.at_once;
      }
    where
      by_spot : (t : Titled) (x : Spot) → Contains (spots [] t.body) x → (v : Way) (q : Place) (o : Statements) →
          SameSpot x (spot v (Do q to o)) → AtOnce v → Stands (spots [] t.body) to
      by_spot t (spot w s) c v q o e a = stands_here (spots [] t.body) w v s q to o c e a

  leads_same : (from to : Name) → Leads us from to → Leads all from to
  leads_same from to there = there
  leads_same from to (onward {next = next} g more) = onward (goes_same from next g) (leads_same next to more)

  module _ (t v : Titled) (e : SameTitle t v) where
    round_kept : (x y : Spot) → SameSpot x y → (c : Culprit) → Unguarded us (v, y) c → (d : Culprit) × Unguarded all (t, x) d
    round_kept (spot w s) (spot u r) h = go s r h.1
      where
        go : (s r : Statements) → AreSame s r → (c : Culprit) → Unguarded us (v, spot u r) c → (d : Culprit) × Unguarded all (t, spot w s) d
        go (Do p name i) (Do q word o) g c a = (
          culprit p name,
          (
            refl,
            once_same w u h.0 a.1,
            subst (λ n. Leads all n t.name) (sym g.0) (subst (Leads all word) (sym e.0) (leads_same word v.name a.2)),
          ),
        )
        go (Continue p name i) (Continue q word o) g c a = guard_kept (spot w (Continue p name i)) (spot u (Continue q word o)) (h.0, g) c a
        go Nothing Nothing g c a = absurd a
        go (Says m i) (Says n o) g c a = absurd a
        go (Choice p at bs i) (Choice q by cs o) g c a = absurd a
        go (Rec p name body i) (Rec q word inner o) g c a = absurd a
        go _ _ g c a = absurd g

    pairs_kept : (xs ys : List Spot) → Zip SameSpot xs ys → Clean (Unguarded all) (map (λ x. (t, x)) xs) →
        Clean (Unguarded us) (map (λ y. (v, y)) ys)
    pairs_kept [] [] k h = tt
    pairs_kept (x ∷ xs) (y ∷ ys) k h = ((λ c b. let d = round_kept x y k.0 c b in h.0 d.0 d.1), pairs_kept xs ys k.1 h.1)
    pairs_kept [] (y ∷ ys) k h = absurd k
    pairs_kept (x ∷ xs) [] k h = absurd k

  clean_front : (xs ys : List (Titled × Spot)) → Clean (Unguarded all) (xs ++ ys) → Clean (Unguarded all) xs
  clean_front [] ys h = tt
  clean_front (x ∷ xs) ys h = (h.0, clean_front xs ys h.1)

  clean_behind : (xs ys : List (Titled × Spot)) → Clean (Unguarded all) (xs ++ ys) → Clean (Unguarded all) ys
  clean_behind [] ys h = h
  clean_behind (x ∷ xs) ys h = clean_behind xs ys h.1

  clean_both : (xs ys : List (Titled × Spot)) → Clean (Unguarded us) xs → Clean (Unguarded us) ys → Clean (Unguarded us) (xs ++ ys)
  clean_both [] ys h g = g
  clean_both (x ∷ xs) ys h g = (h.0, clean_both xs ys h.1 g)

  among_kept : (ts vs : List Titled) → Zip SameTitle ts vs → Clean (Unguarded all) (spots_of body_in ts) →
      Clean (Unguarded us) (spots_of body_in vs)
  among_kept [] [] k h = tt
  among_kept (t ∷ ts) (v ∷ vs) k h =
      clean_both (map (λ y. (v, y)) (spots [] v.body)) (spots_of body_in vs)
      (pairs_kept t v k.0 (spots [] t.body) (spots [] v.body) (spots_same [] [] t.body v.body tt k.0.1)
      (clean_front (map (λ x. (t, x)) (spots [] t.body)) (spots_of body_in ts) h))
      (among_kept ts vs k.1 (clean_behind (map (λ x. (t, x)) (spots [] t.body)) (spots_of body_in ts) h))
  among_kept [] (v ∷ vs) k h = absurd k
  among_kept (t ∷ ts) [] k h = absurd k

pub guards_kept : (all us : List Titled) → Zip SameTitle all us → Clean (Unguarded all) (spots_of body_in all) →
    Clean (Unguarded us) (spots_of body_in us)
guards_kept all us z h = among_kept all us z all us z h
