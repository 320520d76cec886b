-- A valid local protocol has what the layout needs.
use Rattle.std.proofs.Common.{◌≡◌, suc, List, [], ◌∷◌, ◌++◌, map, refl, sym, subst, inl, inr, ◌⊎◌, ⊎_elim, Bool, true}
use Rattle.std.proofs.Common.{false, ◌&&◌, ◌||◌, arith}
use Rattle.std.specs.Prelude.{Contains}
use Rattle.std.specs.Str.{bytes_eq}
use Rattle.std.proofs.Math.Logic.{∥∥₁_elim}
use Rattle.std.proofs.lemmas.Slice.Eq.{bytes_eq-Decides}
use Rattle.mg_text.specs.Call.{Name}
pub use Rattle.scr_tree.proofs.Contained.{first_or_later, none_contained}
use Rattle.mg_read.specs.Culprit.{Culprit, culprit}
use Rattle.mg_read.specs.First.{Clean}
use Rattle.scr_tree.specs.Tree.{LocalTree, Titled, titled, body_in, bodies_in, Statements, Nothing, Says, Choice, Rec, Continue, Do}
use Rattle.scr_tree.specs.Tree.{Branches, NoBranch, Branch}
use Rattle.scr_tree.specs.Spots.{Spot, spot, Past, Opens, Enters, Way, spots, branch_spots, all_spots, spots_of}
use Rattle.scr_tree.specs.Control.{falls, Quietly, opened, past, opening}
use Rattle.scr_tree.specs.Control as control
use Rattle.scr_tree.specs.Conditions.{UnknownRec, Unguarded, Unreachable, BranchStart, HasEmpty}
use Rattle.scr_tree.specs.Going.{UnknownProtocol}
use Rattle.scr_tree.specs.Going as going
use Rattle.scr_tree.specs.Valid.{IsValid, names_in}
use Rattle.scr_trace.proofs.Rules.{passes, Guards, is_among, stays, Sound, SoundIn, SoundFirst}
use Rattle.scr_trace.proofs.Leading.{true_or_false}

-- ---- what is clean

pub clean_once : {X C : Type 0} (At : X → C → Type 0) (xs : List X) (a b : Clean At xs) → a ≡ b
clean_once At [] a b = refl
clean_once At (x ∷ xs) a b = λ i. ((λ c h. let p : a.0 c h ≡ b.0 c h = absurd (a.0 c h) in p i), clean_once At xs a.1 b.1 i)

pub clean_front : {X C : Type 0} (At : X → C → Type 0) (xs ys : List X) → Clean At (xs ++ ys) → Clean At xs
clean_front At [] ys h = tt
clean_front At (x ∷ xs) ys h = (h.0, clean_front At xs ys h.1)

pub clean_behind : {X C : Type 0} (At : X → C → Type 0) (xs ys : List X) → Clean At (xs ++ ys) → Clean At ys
clean_behind At [] ys h = h
clean_behind At (x ∷ xs) ys h = clean_behind At xs ys h.1

pub contains_later : {X : Type 0} (y : X) (ys : List X) (x : X) → Contains ys x → Contains (y ∷ ys) x
contains_later y ys x c = (suc c.0, omega (arith, c.1), c.2)

pub contains_first : {X : Type 0} (y : X) (ys : List X) → Contains (y ∷ ys) y
contains_first y ys = (0, omega arith, refl)

-- no element of a clean list is at fault
pub clean_at : {X C : Type 0} (At : X → C → Type 0) (xs : List X) → Clean At xs → (x : X) → Contains xs x → (c : C) → At x c → ⊥
clean_at At [] h x k c a = none_contained x k
clean_at At (y ∷ ys) h x k c a = ⊎_elim (λ e. h.0 c (subst (λ z. At z c) (sym e) a)) (λ later. clean_at At ys h.1 x later c a)
    (first_or_later y ys x k)

-- ---- the rules

and_true : (a b : Bool) → (a && b) ≡ true → (a ≡ true) × (b ≡ true)
and_true true b e = (refl, e)
and_true false b e = cc

pub both_true : (a b : Bool) → a ≡ true → b ≡ true → (a && b) ≡ true
both_true true b e f = f
both_true false b e f = cc

pub passes_are : (t : Statements) → passes t ≡ true → control.passes t ≡ true
passes_are Nothing e = refl
passes_are (Says m rest) e = cc
passes_are (Choice place at bs rest) e = cc
passes_are (Rec place name body rest) e =
    let both = and_true (passes body) (passes rest) e in both_true (control.passes body) (control.passes rest) (passes_are body both.0)
    (passes_are rest both.1)
passes_are (Continue place name rest) e = cc
passes_are (Do place name rest) e = cc

or_true : (a b : Bool) → (a || b) ≡ true → (a ≡ true) ⊎ (b ≡ true)
or_true true b e = inl refl
or_true false b e = inr e

first_false : (a b : Bool) → a ≡ false → (a && b) ≡ false
first_false true b e = cc
first_false false b e = refl

second_false : (a b : Bool) → b ≡ false → (a && b) ≡ false
second_false true b e = e
second_false false b e = refl

stays_not : (t : Statements) → stays t ≡ true → falls t ≡ false
stays_not Nothing e = cc
stays_not (Says m rest) e = stays_not rest e
stays_not (Choice place at bs rest) e = cc
stays_not (Rec place name body rest) e =
    ⊎_elim (λ h. first_false (falls body) (falls rest) (stays_not body h)) (λ h. second_false (falls body) (falls rest) (stays_not rest h))
    (or_true (stays body) (stays rest) e)
stays_not (Continue place name rest) e = refl
stays_not (Do place name rest) e = refl

-- nothing stands behind what doesn't fall
last : (s t : Statements) (way : Way) → falls s ≡ false → Clean Unreachable (spots (Past s ∷ way) t) → t ≡ Nothing
last s Nothing way e h = refl
last s (Says m rest) way e h = absurd (h.0 (culprit m.place []) (m.place, refl, refl, e))
last s (Choice place at bs rest) way e h = absurd (h.0 (culprit place []) (place, refl, refl, e))
last s (Rec place name body rest) way e h = absurd (h.0 (culprit place []) (place, refl, refl, e))
last s (Continue place name rest) way e h = absurd (h.0 (culprit place []) (place, refl, refl, e))
last s (Do place name rest) way e h = absurd (h.0 (culprit place []) (place, refl, refl, e))

guarded : (name : Name) (t : Statements) (way : Way) → Quietly name way → Clean Unguarded (spots way t) → Guards name t
guarded name Nothing way q h = tt
guarded name (Says m rest) way q h = tt
guarded name (Choice place at bs rest) way q h = tt
guarded name (Rec place other body rest) way q h = (
  guarded name body (Opens other ∷ way) (opening q) (clean_front Unguarded (spots (Opens other ∷ way) body) _ h.1),
  λ e. guarded name rest (Past (Rec place other body Nothing) ∷ way)
      (past (both_true (control.passes body) true (passes_are body e) refl) q)
      (clean_behind Unguarded (spots (Opens other ∷ way) body) _ h.1),
)
guarded name (Continue place other rest) way q h =
    ⊎_elim (λ e. let same = (bytes_eq-Decides name other).0 e in absurd
    (h.0 (culprit place other) (refl, subst (λ n. Quietly n way) same q))) (λ e. e) (true_or_false (bytes_eq name other))
guarded name (Do place other rest) way q h = tt

-- what isn't unlisted is listed
pub listed : (names : List Name) (name : Name) → ((Contains names name → ⊥) → ⊥) → Contains names name
listed [] name h = absurd (h (none_contained name))
listed (other ∷ names) name h =
    ⊎_elim (λ e. subst (Contains (other ∷ names)) (sym ((bytes_eq-Decides name other).0 e)) (0, omega arith, refl))
    (λ e. let rest = listed names name
    (λ n. h (λ c. ⊎_elim (λ same. let t = (bytes_eq-Decides name other).1 (sym same) in cc) n
    (first_or_later other names name c))) in
    (suc rest.0, omega (arith, rest.1), rest.2))
    (true_or_false (bytes_eq name other))

-- the recs that open on a way are among these names
abbrev Opened : List Name → Way → Type 0
Opened names way = (name : Name) → Contains way (Opens name) → is_among name names ≡ true

opened_past : (names : List Name) (way : Way) (s : Statements) → Opened names way → Opened names (Past s ∷ way)
opened_past names way s h name c = ⊎_elim (λ (e : Past s ≡ Opens name). cc e) (λ later. h name later)
    (first_or_later (Past s) way (Opens name) c)

opened_enters : (names : List Name) (way : Way) (at : Name) (earlier : List Statements) → Opened names way →
    Opened names (Enters at earlier ∷ way)
opened_enters names way at earlier h name c = ⊎_elim (λ (e : Enters at earlier ≡ Opens name). cc e) (λ later. h name later)
    (first_or_later (Enters at earlier) way (Opens name) c)

true_or : (a b : Bool) → a ≡ true → (a || b) ≡ true
true_or true b e = refl
true_or false b e = cc

or_second : (a b : Bool) → b ≡ true → (a || b) ≡ true
or_second true b e = refl
or_second false b e = e

opened_opens : (names : List Name) (way : Way) (other : Name) → Opened names way → Opened (other ∷ names) (Opens other ∷ way)
opened_opens names way other h name c =
    ⊎_elim
    (λ (e : Opens other ≡ Opens name). let f : other ≡ name = cc e in true_or (bytes_eq name other) (is_among name names)
    ((bytes_eq-Decides name other).1 (sym f)))
    (λ later. or_second (bytes_eq name other) (is_among name names) (h name later)) (first_or_later (Opens other) way (Opens name) c)

-- the conditions on the spots of statements of a file with these protocols
record AreClean (protocols : List Name) (xs : List Spot) : Type 0 where
  named : Clean (UnknownProtocol protocols) xs
  known : Clean UnknownRec xs
  guards : Clean Unguarded xs
  reached : Clean Unreachable xs
  starts : Clean BranchStart xs

clean_rest : {protocols : List Name} (s : Spot) (xs : List Spot) → AreClean protocols (s ∷ xs) → AreClean protocols xs
clean_rest s xs h = record { named = h.named.1; known = h.known.1; guards = h.guards.1; reached = h.reached.1; starts = h.starts.1 }

front_clean : {protocols : List Name} (xs ys : List Spot) → AreClean protocols (xs ++ ys) → AreClean protocols xs
front_clean {protocols} xs ys h = record {
  named = clean_front (UnknownProtocol protocols) xs ys h.named;
  known =
      clean_front UnknownRec xs ys h.known;
  guards = clean_front Unguarded xs ys h.guards;
  reached = clean_front Unreachable xs ys h.reached;
  starts = clean_front BranchStart xs ys h.starts;
}

behind_clean : {protocols : List Name} (xs ys : List Spot) → AreClean protocols (xs ++ ys) → AreClean protocols ys
behind_clean {protocols} xs ys h = record {
  named = clean_behind (UnknownProtocol protocols) xs ys h.named;
  known =
      clean_behind UnknownRec xs ys h.known;
  guards = clean_behind Unguarded xs ys h.guards;
  reached =
      clean_behind Unreachable xs ys h.reached;
  starts = clean_behind BranchStart xs ys h.starts;
}

module _ (protocols : List Name) where
  mutual
    sound : (t : Statements) (names : List Name) (way : Way) → Opened names way → AreClean protocols (spots way t) → Sound protocols names t
    sound Nothing names way o h = tt
    sound (Says m rest) names way o h = sound rest names (Past (Says m Nothing) ∷ way) (opened_past names way _ o) (clean_rest _ _ h)
    sound (Choice place at bs rest) names way o h =
        let both = clean_rest (spot way (Choice place at bs rest))
        (branch_spots way at [] bs ++ spots (Past (Choice place at bs Nothing) ∷ way) rest) h in (
          sound_in bs names way at [] o (λ e. h.starts.0 (culprit place []) (inl (refl, e)))
              (front_clean (branch_spots way at [] bs) _ both),
          sound rest names (Past (Choice place at bs Nothing) ∷ way) (opened_past names way _ o)
              (behind_clean (branch_spots way at [] bs) _ both),
        )
    sound (Rec place name body rest) names way o h =
        let both = clean_rest (spot way (Rec place name body rest))
        (spots (Opens name ∷ way) body ++ spots (Past (Rec place name body Nothing) ∷ way) rest) h in
        let inside = front_clean (spots (Opens name ∷ way) body) (spots (Past (Rec place name body Nothing) ∷ way) rest) both in
        let behind = behind_clean (spots (Opens name ∷ way) body) (spots (Past (Rec place name body Nothing) ∷ way) rest) both in (
          guarded name body (Opens name ∷ way) opened inside.guards,
          sound body (name ∷ names) (Opens name ∷ way) (opened_opens names way name o) inside,
          λ e. last (Rec place name body Nothing) rest way (first_false (falls body) true (stays_not body e)) behind.reached,
          sound rest names (Past (Rec place name body Nothing) ∷ way) (opened_past names way _ o) behind,
        )
    sound (Continue place name rest) names way o h = (
      ⊎_elim (λ e. e) (λ e. absurd (h.known.0 (culprit place name) (refl, λ c. let f = o name c in cc)))
          (true_or_false (is_among name names)),
      last (Continue place name Nothing) rest way refl h.reached.1,
    )
    sound (Do place name rest) names way o h = (
      listed protocols name (λ unlisted. h.named.0 (culprit place name) (refl, unlisted)),
      last (Do place name Nothing) rest way refl h.reached.1,
    )

    sound_in : (bs : Branches) (names : List Name) (way : Way) (at : Name) (earlier : List Statements) → Opened names way →
        (HasEmpty bs → ⊥) → AreClean protocols (branch_spots way at earlier bs) → SoundIn protocols names bs
    sound_in NoBranch names way at earlier o none h = tt
    sound_in (Branch b more) names way at earlier o none h = (
      sound_first b names way at earlier o (λ e. none (inl e)) (front_clean (spots (Enters at earlier ∷ way) b) _ h),
      sound_in more names way at (b ∷ earlier) o (λ e. none (inr e)) (behind_clean (spots (Enters at earlier ∷ way) b) _ h),
    )

    sound_first : (b : Statements) (names : List Name) (way : Way) (at : Name) (earlier : List Statements) → Opened names way →
        (b ≡ Nothing → ⊥) → AreClean protocols (spots (Enters at earlier ∷ way) b) → SoundFirst protocols names b
    sound_first Nothing names way at earlier o none h = none refl
    sound_first (Says m rest) names way at earlier o none h =
        sound rest names (Past (Says m Nothing) ∷ Enters at earlier ∷ way)
        (opened_past names (Enters at earlier ∷ way) _ (opened_enters names way at earlier o)) (clean_rest _ _ h)
    sound_first (Choice place other bs rest) names way at earlier o none h = h.starts.0 (culprit place []) (inr (place, refl, refl, tt))
    sound_first (Rec place name body rest) names way at earlier o none h = h.starts.0 (culprit place []) (inr (place, refl, refl, tt))
    sound_first (Continue place name rest) names way at earlier o none h = h.starts.0 (culprit place []) (inr (place, refl, refl, tt))
    sound_first (Do place name rest) names way at earlier o none h = h.starts.0 (culprit place []) (inr (place, refl, refl, tt))

-- what guards a protocol in its file guards it alone
alone : (all : List Titled) (t : Titled) (s : Spot) (c : Culprit) → Unguarded s c → going.Unguarded all (t, s) c
alone all t (spot way Nothing) c a = a
alone all t (spot way (Says m rest)) c a = a
alone all t (spot way (Choice place at bs rest)) c a = a
alone all t (spot way (Rec place name body rest)) c a = a
alone all t (spot way (Continue place name rest)) c a = a
alone all t (spot way (Do place name rest)) c a = absurd a

all_alone : (all : List Titled) (t : Titled) (xs : List Spot) → Clean (going.Unguarded all) (map (λ x. (t, x)) xs) → Clean Unguarded xs
all_alone all t [] h = tt
all_alone all t (x ∷ xs) h = ((λ c a. h.0 c (alone all t x c a)), all_alone all t xs h.1)

-- each protocol is sound
abbrev pub AllSound : List Name → List Titled → Type 0
AllSound protocols [] = Unit {0}
AllSound protocols (t ∷ ts) = Sound protocols [] t.body × AllSound protocols ts

all_sound : (protocols : List Name) (all ts : List Titled) → Clean (UnknownProtocol protocols) (all_spots (map body_in ts)) →
    Clean UnknownRec (all_spots (map body_in ts)) →
    Clean (going.Unguarded all) (spots_of body_in ts) → Clean Unreachable (all_spots (map body_in ts)) →
    Clean BranchStart (all_spots (map body_in ts)) → AllSound protocols ts
all_sound protocols all [] n k g r b = tt
all_sound protocols all (t ∷ ts) n k g r b =
    let xs : List Spot = spots [] t.body in
    let ys : List Spot = all_spots (map body_in ts) in
    let own = map (λ (x : Spot). (t, x)) (spots [] t.body) in (
      sound protocols t.body [] [] (λ name c. absurd (none_contained (Opens name) c)) (record {
        named = clean_front (UnknownProtocol protocols) xs ys n;
        known = clean_front UnknownRec xs ys k;
        guards = all_alone all t (spots [] t.body) (clean_front (going.Unguarded all) own (spots_of body_in ts) g);
        reached = clean_front Unreachable xs ys r;
        starts = clean_front BranchStart xs ys b;
      }),
      all_sound protocols all ts (clean_behind (UnknownProtocol protocols) xs ys n) (clean_behind UnknownRec xs ys k)
          (clean_behind (going.Unguarded all) own (spots_of body_in ts) g)
          (clean_behind Unreachable xs ys r) (clean_behind BranchStart xs ys b),
    )

-- the protocols of a valid file
pub valid_sound : (local : LocalTree) → ∥ IsValid local ∥₁ → AllSound (names_in local) (titled local)
valid_sound local v =
    let all = all_spots (bodies_in local) in
    all_sound (names_in local) (titled local) (titled local)
    (∥∥₁_elim v (clean_once (UnknownProtocol (names_in local)) all) (λ i. i.protocols_known))
    (∥∥₁_elim v (clean_once UnknownRec all) (λ i. i.recs_known))
    (∥∥₁_elim v (clean_once (going.Unguarded (titled local)) (spots_of body_in (titled local))) (λ i. i.guarded))
    (∥∥₁_elim v (clean_once Unreachable all) (λ i. i.reachable))
    (∥∥₁_elim v (clean_once BranchStart all) (λ i. i.starts))
