-- What reads and null tests leave of a set, told by a few of its elements.
use Rattle.std.proofs.Common.{◌≡◌, ◌≢◌, ℕ, zero, suc, ◌+◌, ◌<◌, ◌≤◌, Bool, true, false, not, if◌then◌else◌, List, [], ◌∷◌, ◌++◌, length, nat_eq, nat_lt}
use Rattle.std.proofs.Common.{Some, refl, sym, ap, ◌∙◌, subst, arith, append_assoc}
use Rattle.std.specs.Prelude.{slice_set, ◌||◌}
use Rattle.std.specs.Bool.{OnTrue}
use Rattle.std.specs.List.{list_any}
use Rattle.std.proofs.lemmas.Bool.{lt-ltb, ne_eqb}
use Rattle.std.proofs.lemmas.List.{length-append}
use Rattle.mg_text.specs.Call.{Name}
use Rattle.mg_text.specs.declared.place.Place.{Place}
use Rattle.mg_sets.specs.Sets.{has, members, members_from}
use Rattle.use_rules.specs.declared.demand.DemandKind.TheVariants as demands
use Rattle.use_rules.specs.declared.demand.Demand.{Demand}
use Rattle.use_rules.specs.Elements.{Set, none, image, marked, leads_from, left_behind, if_moved}
use Rattle.use_rules.specs.State.{judged, judged_from}
use Rattle.use_elements.specs.Mappings.{blamed, LeadsToItself}
use Rattle.use_elements.proofs.Rests.{append_nil, image_start, led_all}

false_true : false ≡ true → ⊥
false_true h = cc

-- A set of which each element leads to itself.

set_at : (pre s : Set) → slice_set (pre ++ false ∷ s) (length pre) true ≡ pre ++ true ∷ s
set_at [] s = refl
set_at (p ∷ pre) s = ap (λ r. p ∷ r) (set_at pre s)

module _ (to : ℕ → List ℕ) where
  later : (n : ℕ) (b : Bool) (t : Set) → ((j : ℕ) → has (b ∷ t) j ≡ true → to (n + j) ≡ (n + j) ∷ []) →
      (j : ℕ) → has t j ≡ true → to (suc n + j) ≡ (suc n + j) ∷ []
  later n b t h j e = let m : n + suc j ≡ suc n + j = omega arith in subst (λ x. to x ≡ x ∷ []) m (h (suc j) e)

  longer : (n : ℕ) (pre : Set) (b : Bool) → n ≡ length pre → suc n ≡ length (pre ++ b ∷ [])
  longer n pre b e = let l : length (pre ++ b ∷ []) ≡ length pre + 1 = length-append pre (b ∷ []) in omega (arith, e, l)

  kept_from : (n : ℕ) (pre t : Set) → n ≡ length pre → ((j : ℕ) → has t j ≡ true → to (n + j) ≡ (n + j) ∷ []) →
      marked (leads_from to n t) (pre ++ none (length t)) ≡ pre ++ t
  kept_from n pre [] e h = refl
  kept_from n pre (false ∷ t) e h =
      ap (marked (leads_from to (suc n) t)) (sym (append_assoc pre (false ∷ []) (none (length t))))
      ∙ kept_from (suc n) (pre ++ false ∷ []) t (longer n pre false e) (later n false t h) ∙ append_assoc pre (false ∷ []) t
  kept_from n pre (true ∷ t) e h =
      let first : to n ≡ n ∷ [] = let z : n + 0 ≡ n = omega arith in subst (λ x. to x ≡ x ∷ []) z (h 0 refl) in
      ap (λ es. marked (es ++ leads_from to (suc n) t) (pre ++ false ∷ none (length t))) first
      ∙ ap (marked (leads_from to (suc n) t)) (ap (λ i. slice_set (pre ++ false ∷ none (length t)) i true) e ∙ set_at pre (none (length t))
      ∙ sym (append_assoc pre (true ∷ []) (none (length t))))
      ∙ kept_from (suc n) (pre ++ true ∷ []) t (longer n pre true e) (later n true t h) ∙ append_assoc pre (true ∷ []) t

  kept_image : (w but : ℕ) (s : Set) → length s ≡ w → LeadsToItself to but → has s but ≡ false → image w to s ≡ s
  kept_image w but s l i h =
      ap (λ n. image n to s) (sym l)
      ∙ kept_from 0 [] s refl (λ j q.
      let z : j ≡ 0 + j = omega arith in
      subst (λ x. to x ≡ x ∷ []) z (i.itself j (λ e. false_true (sym h ∙ ap (has s) (sym e) ∙ q))))

pub kept_unless : (to : ℕ → List ℕ) (w but : ℕ) (s : Set) (r : Bool) → length s ≡ w → LeadsToItself to but → r ≡ has s but →
    OnTrue (not r) (image w to s ≡ s)
kept_unless to w but s true l i e = tt
kept_unless to w but s false l i e = kept_image to w but s l i (sym e)

pub ruleset kept = (kept_unless)

-- What a read leaves.

pub null_none : (s : Set) → length s ≡ 0 → false ≡ has s 0
null_none [] h = refl
null_none (a ∷ s) h = absurd (omega (arith, h))

abbrev on : Bool → ℕ → Set → Set
on b i f = if b then slice_set f i true else f

null_once : (z : Bool) (f : Set) → on z 0 (slice_set f 0 true) ≡ slice_set f 0 true
null_once false f = refl
null_once true [] = refl
null_once true (x ∷ f) = refl

object_once : (h z : Bool) (f : Set) → on h 1 (on z 0 (slice_set f 1 true)) ≡ slice_set (on z 0 f) 1 true
object_once false false f = refl
object_once false true [] = refl
object_once false true (x ∷ f) = refl
object_once true false [] = refl
object_once true false (x ∷ []) = refl
object_once true false (x ∷ y ∷ f) = refl
object_once true true [] = refl
object_once true true (x ∷ []) = refl
object_once true true (x ∷ y ∷ f) = refl

no_zero : (k : ℕ) → nat_eq 0 (suc k) ≡ false
no_zero k = ne_eqb 0 (suc k) (λ h. let z : ⊥ = omega (arith, h) in z)

two_high : (e : ℕ) → nat_lt 1 (suc (suc e)) ≡ true
two_high e = let l : 1 < suc (suc e) = omega arith in lt-ltb 1 (suc (suc e)) l

left_all : (es : List ℕ) (f : Set) →
    marked (led_all left_behind es) f ≡ on (list_any (nat_lt 1) es) 1 (on (list_any (nat_eq 0) es) 0 f)
left_all [] f = refl
left_all (zero ∷ es) f =
    left_all es (slice_set f 0 true) ∙ ap (on (list_any (nat_lt 1) es) 1) (null_once (list_any (nat_eq 0) es) f)
left_all (suc zero ∷ es) f = left_all es f
left_all (suc (suc e) ∷ es) f =
    left_all es (slice_set f 1 true) ∙ object_once (list_any (nat_lt 1) es) (list_any (nat_eq 0) es) f
    ∙ sym (ap (λ b. on (b || list_any (nat_lt 1) es) 1 (on (nat_eq 0 (suc (suc e)) || list_any (nat_eq 0) es) 0 f)) (two_high e)
    ∙ ap (λ b. slice_set (on (b || list_any (nat_eq 0) es) 0 f) 1 true) (no_zero (suc e)))

no_null : (k : ℕ) (s : Set) → list_any (nat_eq 0) (members_from (suc k) s) ≡ false
no_null k [] = refl
no_null k (true ∷ s) = ap (λ b. b || list_any (nat_eq 0) (members_from (suc (suc k)) s)) (no_zero k) ∙ no_null (suc k) s
no_null k (false ∷ s) = no_null (suc k) s

null_member : (s : Set) → list_any (nat_eq 0) (members s) ≡ has s 0
null_member [] = refl
null_member (true ∷ s) = refl
null_member (false ∷ s) = no_null 0 s

pub left_image : (w : ℕ) (s found null object : Set) (z h : Bool) → found ≡ none w → z ≡ has s 0 → null ≡ on z 0 found →
    h ≡ list_any (nat_lt 1) (members s) → object ≡ on h 1 null → object ≡ image w left_behind s
left_image w s found null object z h f zs n hs o =
    o ∙ ap (λ b. on b 1 null) hs
    ∙ ap (on (list_any (nat_lt 1) (members s)) 1) (n ∙ ap (λ b. on b 0 found) (zs ∙ sym (null_member s)))
    ∙ sym (left_all (members s) found) ∙ image_start left_behind w s found (members s) refl f

pub ruleset left = (null_none, left_image)

pub object_start : (s : Set) (es : List ℕ) → es ≡ members s → list_any (nat_lt 1) es ≡ list_any (nat_lt 1) (members s)
object_start s es e = ap (list_any (nat_lt 1)) e

low : (e : ℕ) → e ≤ 1 → nat_lt 1 e ≡ false
low zero h = refl
low (suc zero) h = refl
low (suc (suc e)) h = absurd (omega (arith, h))

high : (e : ℕ) → 1 < e → nat_lt 1 e ≡ true
high e h = lt-ltb 1 e h

pub object_turn : (e : ℕ) (all rest : List ℕ) (total : Bool) → all ≡ e ∷ rest → e ≤ 1 → list_any (nat_lt 1) all ≡ total →
    list_any (nat_lt 1) rest ≡ total
object_turn e all rest total a l h =
    ap (λ b. b || list_any (nat_lt 1) rest) (sym (low e l)) ∙ ap (list_any (nat_lt 1)) (sym a) ∙ h

pub object_found : (e : ℕ) (all rest : List ℕ) (total : Bool) → all ≡ e ∷ rest → 1 < e → list_any (nat_lt 1) all ≡ total → true ≡ total
object_found e all rest total a l h =
    ap (λ b. b || list_any (nat_lt 1) rest) (sym (high e l)) ∙ ap (list_any (nat_lt 1)) (sym a) ∙ h

pub object_end : (es : List ℕ) (total : Bool) → es ≡ [] → list_any (nat_lt 1) es ≡ total → false ≡ total
object_end es total e h = ap (list_any (nat_lt 1)) (sym e) ∙ h

pub ruleset objects = (object_start, object_turn, object_found, object_end)

-- What is asked of a moved object.

module _ (q : Place) (y : ℕ) (x : Name) (c : ℕ) where
  never : (i : ℕ) (t : Set) → judged_from if_moved q y x c (suc (suc i)) t ≡ []
  never i [] = refl
  never i (true ∷ t) = never (suc i) t
  never i (false ∷ t) = never (suc i) t

  asked : (s : Set) → judged if_moved q y x c s ≡ (if has s 1 then blamed q y x c 1 (Some demands.UseMoved) else [])
  asked [] = refl
  asked (true ∷ []) = refl
  asked (false ∷ []) = refl
  asked (true ∷ true ∷ s) = ap (λ ds. blamed q y x c 1 (Some demands.UseMoved) ++ ds) (never 0 s)
  asked (true ∷ false ∷ s) = never 0 s
  asked (false ∷ true ∷ s) = ap (λ ds. blamed q y x c 1 (Some demands.UseMoved) ++ ds) (never 0 s)
  asked (false ∷ false ∷ s) = never 0 s

has_short : (s : Set) → length s < 2 → has s 1 ≡ false
has_short [] h = refl
has_short (a ∷ []) h = refl
has_short (a ∷ b ∷ s) h = absurd (omega (arith, h))

pub unmoved : (q : Place) (y : ℕ) (x : Name) (c : ℕ) (s : Set) (ds : List Demand) → has s 1 ≡ false → ds ≡ ds ++ judged if_moved q y x c s
unmoved q y x c s ds h =
    sym (append_nil ds) ∙ ap (λ v. ds ++ v) (ap (λ b. if b then blamed q y x c 1 (Some demands.UseMoved) else []) (sym h) ∙ sym (asked q y x c s))

pub unmoved_short : (q : Place) (y : ℕ) (x : Name) (c : ℕ) (s : Set) (ds : List Demand) → length s < 2 → ds ≡ ds ++ judged if_moved q y x c s
unmoved_short q y x c s ds h = unmoved q y x c s ds (has_short s h)

pub moved_is : (q : Place) (y : ℕ) (x : Name) (c : ℕ) (s : Set) (ds ds' : List Demand) → has s 1 ≡ true →
    ds' ≡ ds ++ blamed q y x c 1 (Some demands.UseMoved) → ds' ≡ ds ++ judged if_moved q y x c s
moved_is q y x c s ds ds' h e =
    e ∙ ap (λ v. ds ++ v) (ap (λ b. if b then blamed q y x c 1 (Some demands.UseMoved) else []) (sym h) ∙ sym (asked q y x c s))

pub ruleset moved = (unmoved, unmoved_short, moved_is)
