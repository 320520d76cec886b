-- Conditions hold of a spot of a global protocol where they hold of its pair in the outline.
use Rattle.std.proofs.Common.{◌≡◌, ◌≢◌, ◌↔◌, List, [], ◌∷◌, map, Bool, true, false, if◌then◌else◌, IsTrue, Option, Some, None, Decides}
use Rattle.std.proofs.Common.{refl, sym, ap, subst, ◌∙◌, inl, inr, ◌⊎◌, ⊎_elim, true≢false}
use Rattle.std.specs.Prelude.{Contains}
use Rattle.std.specs.Str.{bytes_eq}
use Rattle.std.proofs.lemmas.Slice.Eq.{bytes_eq-Decides}
use Rattle.mg_text.specs.Call.{Name}
use Rattle.mg_text.specs.declared.place.Place.{Place}
use Rattle.mg_read.specs.Culprit.{Culprit, culprit}
use Rattle.scr_tree.specs.declared.syntax.Direction.TheVariants as directions
use Rattle.scr_tree.specs.Tree as local
use Rattle.scr_tree.specs.Spots as local_spots
use Rattle.scr_tree.specs.Control as control
use Rattle.scr_tree.specs.Conditions as says
use Rattle.scr_judge.proofs.Quiet as quiet
use Rattle.scr_global.specs.Tree.{Statements, Nothing, Says, Choice, Rec, Continue, Branches, NoBranch, Branch}
use Rattle.scr_global.specs.Spots.{Past, Opens, Enters, Way, Spot, spot, head_place, falls, passes, Quietly, opened, opening, entering}
use Rattle.scr_global.specs.Spots as global_spots
use Rattle.scr_global.specs.Conditions.{UnknownRec, DuplicateRec, Unguarded, Unreachable, HasEmpty, EmptyBranch}
use Rattle.scr_global.specs.Conditions.{first_label, OtherStart, BranchStart, AllBetween, MixedChoice, SameLabel}
use Rattle.scr_global.proofs.Names.{first_or_later, none_contained, first_in, later_in}
use Rattle.scr_global_judge.specs.inner.Outline.{way_of, outlined, outlined_each}
use Rattle.scr_global_judge.proofs.Pairs.{nobody, Like, start, past, opens, enters, beginning, Paired, pair, SameAt}

-- ---- recs on the way

opens_to : {way : Way} {other : local_spots.Way} (name : Name) → Like way other → Contains way (Opens name) →
    Contains other (local_spots.Opens name)
opens_to name start c = absurd (none_contained (Opens name) c)
opens_to name (past {way = way} {other = other} s t f p l) c =
    ⊎_elim (λ (e : Past s ≡ Opens name). cc e) (λ d. later_in (local_spots.Past t) other (local_spots.Opens name) (opens_to name l d))
    (first_or_later (Past s) way (Opens name) c)
opens_to name (opens {way = way} {other = other} found l) c =
    ⊎_elim (λ (e : Opens found ≡ Opens name). let f : found ≡ name = cc e in first_in (local_spots.Opens found) other
    (local_spots.Opens name) (ap local_spots.Opens f))
    (λ d. later_in (local_spots.Opens found) other (local_spots.Opens name) (opens_to name l d))
    (first_or_later (Opens found) way (Opens name) c)
opens_to name (enters {way = way} {other = other} at earlier before e l) c =
    ⊎_elim (λ (f : Enters at earlier ≡ Opens name). cc f) (λ d. later_in (local_spots.Enters [] before) other (local_spots.Opens name)
    (opens_to name l d)) (first_or_later (Enters at earlier) way (Opens name) c)

opens_from : {way : Way} {other : local_spots.Way} (name : Name) → Like way other → Contains other (local_spots.Opens name) →
    Contains way (Opens name)
opens_from name start c = absurd (none_contained (local_spots.Opens name) c)
opens_from name (past {way = way} {other = other} s t f p l) c =
    ⊎_elim (λ (e : local_spots.Past t ≡ local_spots.Opens name). cc e) (λ d. later_in (Past s) way (Opens name) (opens_from name l d))
    (first_or_later (local_spots.Past t) other (local_spots.Opens name) c)
opens_from name (opens {way = way} {other = other} found l) c =
    ⊎_elim (λ (e : local_spots.Opens found ≡ local_spots.Opens name). let f : found ≡ name = cc e in first_in (Opens found) way (Opens name)
    (ap Opens f))
    (λ d. later_in (Opens found) way (Opens name) (opens_from name l d))
    (first_or_later (local_spots.Opens found) other (local_spots.Opens name) c)
opens_from name (enters {way = way} {other = other} at earlier before e l) c =
    ⊎_elim (λ (f : local_spots.Enters [] before ≡ local_spots.Opens name). cc f) (λ d. later_in (Enters at earlier) way (Opens name)
    (opens_from name l d))
    (first_or_later (local_spots.Enters [] before) other (local_spots.Opens name) c)

-- ---- ways without a message

quietly_past : {name : Name} (w : Way) → Quietly name w → (s : Statements) (way : Way) → w ≡ Past s ∷ way →
    IsTrue (passes s) × Quietly name way
quietly_past w opened s way e = let no : ⊥ = cc in absurd no
quietly_past {name} w (global_spots.past {s = t} {way = v} t_passes q) s way e =
    let same : t ≡ s = cc in let rest : v ≡ way = cc in (subst (λ x. IsTrue (passes x)) same t_passes, subst (Quietly name) rest q)
quietly_past w (opening q) s way e = let no : ⊥ = cc in absurd no
quietly_past w (entering q) s way e = let no : ⊥ = cc in absurd no

quietly_in : {name : Name} (w : Way) → Quietly name w → (at : Name) (earlier : List Statements) (way : Way) → w ≡ Enters at earlier ∷ way →
    Quietly name way
quietly_in w opened at earlier way e = let no : ⊥ = cc in absurd no
quietly_in w (global_spots.past t_passes q) at earlier way e = let no : ⊥ = cc in absurd no
quietly_in w (opening q) at earlier way e = let no : ⊥ = cc in absurd no
quietly_in {name} w (entering {way = v} q) at earlier way e = let rest : v ≡ way = cc in subst (Quietly name) rest q

quietly_opened : {name : Name} (w : Way) → Quietly name w → (other : Name) (way : Way) → w ≡ Opens other ∷ way → (other ≢ name) →
    Quietly name way
quietly_opened {name} w (opened {way = v}) other way e differs = let same : other ≡ name = cc in absurd (differs same)
quietly_opened w (global_spots.past t_passes q) other way e differs = let no : ⊥ = cc in absurd no
quietly_opened {name} w (opening {way = v} q) other way e differs = let rest : v ≡ way = cc in subst (Quietly name) rest q
quietly_opened w (entering q) other way e differs = let no : ⊥ = cc in absurd no

quietly_start : {name : Name} (w : Way) → Quietly name w → w ≡ [] → ⊥
quietly_start w opened e = cc
quietly_start w (global_spots.past t_passes q) e = cc
quietly_start w (opening q) e = cc
quietly_start w (entering q) e = cc

local_start : {name : Name} (w : local_spots.Way) → control.Quietly name w → w ≡ [] → ⊥
local_start w control.opened e = cc
local_start w (control.past t_passes q) e = cc
local_start w (control.opening q) e = cc
local_start w (control.entering q) e = cc

quietly_to : {way : Way} {other : local_spots.Way} (name : Name) → Like way other → Quietly name way → control.Quietly name other
quietly_to name start q = absurd (quietly_start _ q refl)
quietly_to name (past {way = way} s t f p l) q =
    let h = quietly_past _ q s way refl in control.past (subst IsTrue p h.0) (quietly_to name l h.1)
quietly_to name (opens {way = way} {other = other} found l) q = go (bytes_eq found name) (bytes_eq-Decides found name) (quietly_to name l)
  where
    go : (b : Bool) → Decides b (found ≡ name) → (Quietly name way → control.Quietly name other) →
        control.Quietly name (local_spots.Opens found ∷ other)
    go true d inner = subst (λ z. control.Quietly name (local_spots.Opens z ∷ other)) (sym (d.0 refl)) control.opened
    go false d inner = control.opening (inner (quietly_opened _ q found way refl (λ e. true≢false (sym (d.1 e)))))
quietly_to name (enters {way = way} at earlier before e l) q = control.entering (quietly_to name l (quietly_in _ q at earlier way refl))

quietly_from : {way : Way} {other : local_spots.Way} (name : Name) → Like way other → control.Quietly name other → Quietly name way
quietly_from name start q = absurd (local_start _ q refl)
quietly_from name (past {other = other} s t f p l) q =
    let h = quiet.quietly_past _ q t other refl in global_spots.past (subst IsTrue (sym p) h.0) (quietly_from name l h.1)
quietly_from name (opens {way = way} {other = other} found l) q = go (bytes_eq found name) (bytes_eq-Decides found name)
    (quietly_from name l)
  where
    go : (b : Bool) → Decides b (found ≡ name) → (control.Quietly name other → Quietly name way) → Quietly name (Opens found ∷ way)
    go true d inner = subst (λ z. Quietly name (Opens z ∷ way)) (sym (d.0 refl)) opened
    go false d inner = opening (inner (quiet.quietly_opened _ q found other refl (λ e. true≢false (sym (d.1 e)))))
quietly_from name (enters {other = other} at earlier before e l) q =
    entering (quietly_from name l (quiet.quietly_in _ q [] before other refl))

-- ---- the conditions

abbrev Both : Type 0 → Type 0 → Type 0
Both P Q = (P → Q) × (Q → P)

neither : Both ⊥ ⊥
neither = ((λ x. x), (λ x. x))

with_place : (c k : Culprit) (P Q : Type 0) → Both P Q → Both ((c ≡ k) × P) ((c ≡ k) × Q)
with_place c k P Q h = ((λ x. (x.0, h.0 x.1)), (λ x. (x.0, h.1 x.1)))

not_both : (P Q : Type 0) → Both P Q → Both (P → ⊥) (Q → ⊥)
not_both P Q h = ((λ n q. n (h.1 q)), (λ n p. n (h.0 p)))

pub recs_known : SameAt UnknownRec says.UnknownRec
recs_known x y (pair Nothing l) c = neither
recs_known x y (pair (Says m rest) l) c = neither
recs_known x y (pair (Choice place at branches rest) l) c = neither
recs_known x y (pair (Rec place name body rest) l) c = neither
recs_known x y (pair (Continue place name rest) l) c = with_place c (culprit place name) _ _
    (not_both _ _ (opens_to name l, opens_from name l))

pub recs_differ : SameAt DuplicateRec says.DuplicateRec
recs_differ x y (pair Nothing l) c = neither
recs_differ x y (pair (Says m rest) l) c = neither
recs_differ x y (pair (Choice place at branches rest) l) c = neither
recs_differ x y (pair (Rec place name body rest) l) c = with_place c (culprit place name) _ _ (opens_to name l, opens_from name l)
recs_differ x y (pair (Continue place name rest) l) c = neither

pub guarded : SameAt Unguarded says.Unguarded
guarded x y (pair Nothing l) c = neither
guarded x y (pair (Says m rest) l) c = neither
guarded x y (pair (Choice place at branches rest) l) c = neither
guarded x y (pair (Rec place name body rest) l) c = neither
guarded x y (pair (Continue place name rest) l) c = with_place c (culprit place name) _ _ (quietly_to name l, quietly_from name l)

head_is : (begins : Option Name) (s : Statements) → head_place s ≡ local_spots.head_place (outlined begins s)
head_is begins Nothing = refl
head_is begins (Says m rest) = refl
head_is begins (Choice place at branches rest) = refl
head_is begins (Rec place name body rest) = refl
head_is begins (Continue place name rest) = refl

pub reachable : SameAt Unreachable says.Unreachable
reachable x y (pair s start) c = neither
reachable x y (pair s (past u t f p l)) c = (
  (λ h. (h.0, sym (head_is None s) ∙ h.1, h.2, sym f ∙ h.3)),
  (λ h. (h.0, head_is None s ∙ h.1, h.2, f ∙ h.3)),
)
reachable x y (pair s (opens name l)) c = neither
reachable x y (pair s (enters at earlier before e l)) c = neither

nothing_to : (begins : Option Name) (b : Statements) → b ≡ Nothing → outlined begins b ≡ local.Nothing
nothing_to begins b e = ap (outlined begins) e

nothing_from : (begins : Option Name) (b : Statements) → outlined begins b ≡ local.Nothing → b ≡ Nothing
nothing_from begins Nothing e = refl
nothing_from begins (Says m rest) e = absurd cc
nothing_from begins (Choice place at branches rest) e = absurd cc
nothing_from begins (Rec place name body rest) e = absurd cc
nothing_from begins (Continue place name rest) e = absurd cc

empty_to : (at : Name) (bs : Branches) → HasEmpty bs → says.HasEmpty (outlined_each at bs)
empty_to at NoBranch h = h
empty_to at (Branch b more) h = ⊎_elim (λ e. inl (nothing_to (Some at) b e)) (λ k. inr (empty_to at more k)) h

empty_from : (at : Name) (bs : Branches) → says.HasEmpty (outlined_each at bs) → HasEmpty bs
empty_from at NoBranch h = h
empty_from at (Branch b more) h = ⊎_elim (λ e. inl (nothing_from (Some at) b e)) (λ k. inr (empty_from at more k)) h

otherwise : (begins : Option Name) (s : Statements) (place : Place) → head_place s ≡ Some place →
    Both (first_label s ≡ None) (says.BeginsOtherwise (outlined begins s))
otherwise begins Nothing p e = absurd cc
otherwise begins (Says m rest) p e = ((λ n. absurd cc), (λ h. absurd h))
otherwise begins (Choice place at branches rest) p e = ((λ n. tt), (λ h. refl))
otherwise begins (Rec place name body rest) p e = ((λ n. tt), (λ h. refl))
otherwise begins (Continue place name rest) p e = ((λ n. tt), (λ h. refl))

empties : (begins : Option Name) (s : Statements) (c : Culprit) → Both (EmptyBranch s c) (says.EmptyBranch (outlined begins s) c)
empties begins Nothing c = neither
empties begins (Says m rest) c = neither
empties begins (Choice place at branches rest) c = with_place c (culprit place []) _ _ (empty_to at branches, empty_from at branches)
empties begins (Rec place name body rest) c = neither
empties begins (Continue place name rest) c = neither

others : {way : Way} {other : local_spots.Way} (s : Statements) → Like way other → (c : Culprit) →
    Both (OtherStart (spot way s) c) (says.OtherStart (local_spots.spot other (outlined (beginning way) s)) c)
others s start c = neither
others s (past u t f p l) c = neither
others s (opens name l) c = neither
others s (enters at earlier before e l) c = (
  (λ h. (h.0, sym (head_is (Some at) s) ∙ h.1, h.2, (otherwise (Some at) s h.0 h.1).0 h.3)),
  (λ h. let e : head_place s ≡ Some h.0 = head_is (Some at) s ∙ h.1 in (h.0, e, h.2, (otherwise (Some at) s h.0 e).1 h.3)),
)

pub starts : SameAt BranchStart says.BranchStart
starts x y (pair {way = way} s l) c = (
  (λ h. ⊎_elim (λ e. inl ((empties (beginning way) s c).0 e)) (λ o. inr ((others s l c).0 o)) h),
  (λ h. ⊎_elim (λ e. inl ((empties (beginning way) s c).1 e)) (λ o. inr ((others s l c).1 o)) h),
)

-- ---- first messages

from_way : (at sender : Name) → way_of (Some at) sender ≡ directions.From → sender ≡ at
from_way at sender e = go (bytes_eq sender at) (bytes_eq-Decides sender at) e
  where
    go : (b : Bool) → Decides b (sender ≡ at) → (if b then directions.From else directions.To) ≡ directions.From → sender ≡ at
    go true d f = d.0 refl
    go false d f = absurd cc

way_from : (at sender : Name) → sender ≡ at → way_of (Some at) sender ≡ directions.From
way_from at sender e = ap (λ (b : Bool). if b then directions.From else directions.To) ((bytes_eq-Decides sender at).1 e)

between_to : (at to : Name) (bs : Branches) → AllBetween at to bs → says.AllFrom to (outlined_each at bs)
between_to at to NoBranch h = tt
between_to at to (Branch Nothing more) h = between_to at to more h
between_to at to (Branch (Says m rest) more) h = (way_from at m.from h.0, h.1, between_to at to more h.2)
between_to at to (Branch (Choice place other branches rest) more) h = between_to at to more h
between_to at to (Branch (Rec place name body rest) more) h = between_to at to more h
between_to at to (Branch (Continue place name rest) more) h = between_to at to more h

between_from : (at to : Name) (bs : Branches) → says.AllFrom to (outlined_each at bs) → AllBetween at to bs
between_from at to NoBranch h = tt
between_from at to (Branch Nothing more) h = between_from at to more h
between_from at to (Branch (Says m rest) more) h = (from_way at m.from h.0, h.1, between_from at to more h.2)
between_from at to (Branch (Choice place other branches rest) more) h = between_from at to more h
between_from at to (Branch (Rec place name body rest) more) h = between_from at to more h
between_from at to (Branch (Continue place name rest) more) h = between_from at to more h

nobody_is : [] ≡ nobody → ⊥
nobody_is e = cc

mixed : (at : Name) (branches : Branches) → Both ((to : Name) → AllBetween at to branches → ⊥)
    (says.IsUniform nobody [] (outlined_each at branches) → ⊥)
mixed at branches = (
  (λ n u. ⊎_elim (λ s. nobody_is s.0) (λ f. n f.1 (between_from at f.1 branches f.2)) u),
  (λ n to h. n (inr (nobody_is, to, between_to at to branches h))),
)

pub uniform : SameAt MixedChoice (says.MixedChoice nobody)
uniform x y (pair Nothing l) c = neither
uniform x y (pair (Says m rest) l) c = neither
uniform x y (pair (Choice place at branches rest) l) c = with_place c (culprit place []) _ _ (mixed at branches)
uniform x y (pair (Rec place name body rest) l) c = neither
uniform x y (pair (Continue place name rest) l) c = neither

labels : {way : Way} {other : local_spots.Way} (s : Statements) → Like way other → (c : Culprit) →
    Both (SameLabel (spot way s) c) (says.SameLabel nobody (local_spots.spot other (outlined (beginning way) s)) c)
labels s start c = neither
labels s (past u t f p l) c = neither
labels s (opens name l) c = neither
labels Nothing (enters at earlier before e l) c = neither
labels (Says m rest) (enters at earlier before e l) c =
    with_place c (culprit m.place m.label) _ _ (
      (λ h. subst (λ (os : List (Option Name)). Contains os (Some m.label)) e h),
      (λ h. subst (λ (os : List (Option Name)). Contains os (Some m.label)) (sym e) h),
    )
labels (Choice place other branches rest) (enters at earlier before e l) c = neither
labels (Rec place name body rest) (enters at earlier before e l) c = neither
labels (Continue place name rest) (enters at earlier before e l) c = neither

pub labels_differ : SameAt SameLabel (says.SameLabel nobody)
labels_differ x y (pair s l) c = labels s l c
