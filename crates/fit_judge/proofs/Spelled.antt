-- Where the protocols of roles stand among the parts of files.
use Rattle.std.proofs.Common.{◌≡◌, ℕ, zero, suc, ◌+◌, ◌<◌, ◌≤◌, Bool, true, false, cond, List, [], ◌∷◌, ◌++◌, length, String, Contains, Option}
use Rattle.std.proofs.Common.{Some, None, Decides, refl, sym, ap, ◌∙◌, subst, ⊎_elim, arith}
use Rattle.std.specs.Borrow.{Bor}
use Rattle.std.specs.Prelude.{slice_get}
use Rattle.std.specs.HashMap.{HashMap, get_by_text}
use Rattle.std.specs.Str.{bytes_eq}
use Rattle.std.proofs.lemmas.Bool.{cases_lt}
use Rattle.std.proofs.lemmas.List.Elements.{Contains-append_right}
use Rattle.std.proofs.lemmas.Option.{slice_get_within}
use Rattle.std.proofs.lemmas.Slice.Eq.{bytes_eq-Decides}
use Rattle.mg_text.specs.Call.{Name}
use Rattle.scr_tree.specs.Tree.{LocalTree}
use Rattle.scr_tree.specs.Local.{tree_of as local_of}
use Rattle.scr_tree.specs.declared.local.Local.{Local}
use Rattle.scr_tree.specs.Valid.{AreDistinct}
use Rattle.scr_judge.proofs.Members.{Contains-nil, Contains-cons_cases, Contains-first, Contains-image}
use Rattle.scr_judge.proofs.Members.{Contains-origin}
use Rattle.mg_sources.specs.Reading.{Part, Protocol, States, Classes}
use Rattle.mg_fits.specs.Parts.{protocol_in, protocols_in, roles_in}
use Rattle.fit_judge.specs.inner.Absent.{IsProtocolIn}
use Rattle.fit_judge.specs.inner.Projections.{NumbersParts, IsOwn}

-- what a part is
pub protocol_is : (part : Part) (local : LocalTree) → protocol_in part ≡ local ∷ [] → part ≡ Protocol local
protocol_is (Protocol other) local e = let same : other ≡ local = cc in ap Protocol same
protocol_is (States typestate) local e = absurd cc
protocol_is (Classes file) local e = absurd cc

-- a part at a place is among them
pub held_at : (parts : List Part) (place : ℕ) (local : LocalTree) → slice_get parts place ≡ Some (Protocol local) →
    Contains (protocols_in parts) local
held_at [] place local e = absurd cc
held_at (part ∷ parts) zero local e =
    let same : part ≡ Protocol local = cc in
    subst (λ (z : Part). Contains (protocol_in z ++ protocols_in parts) local) (sym same) (Contains-first (protocols_in parts) local)
held_at (part ∷ parts) (suc place) local e =
    Contains-append_right (protocol_in part) (protocols_in parts) local (held_at parts place local e)

-- and each of them has a place
pub place_of : (parts : List Part) (local : LocalTree) → Contains (protocols_in parts) local →
    (place : ℕ) × (slice_get parts place ≡ Some (Protocol local))
place_of [] local h = absurd (Contains-nil local h)
place_of (Protocol other ∷ parts) local h =
    ⊎_elim (λ same. (zero, ap (λ (z : LocalTree). Some (Protocol z)) same)) (λ more. let w = place_of parts local more in (suc w.0, w.1))
    (Contains-cons_cases (protocols_in parts) other local h)
place_of (States typestate ∷ parts) local h = let w = place_of parts local h in (suc w.0, w.1)
place_of (Classes file ∷ parts) local h = let w = place_of parts local h in (suc w.0, w.1)

role_in : (parts : List Part) (place : ℕ) (local : LocalTree) → slice_get parts place ≡ Some (Protocol local) →
    Contains (roles_in parts) local.me
role_in parts place local e = Contains-image (λ (l : LocalTree). l.me) (protocols_in parts) local (held_at parts place local e)

rest_differ : (part : Part) (parts : List Part) → AreDistinct (roles_in (part ∷ parts)) → AreDistinct (roles_in parts)
rest_differ (Protocol local) parts d = d.1
rest_differ (States typestate) parts d = d
rest_differ (Classes file) parts d = d

front_differs : (part : Part) (parts : List Part) (local : LocalTree) → AreDistinct (roles_in (part ∷ parts)) → Some part ≡ Some (Protocol local)
    → (role : Name) → local.me ≡ role → Contains (roles_in parts) role → ⊥
front_differs part parts local d e role same h =
    let is : part ≡ Protocol local = cc in
    (subst (λ (z : Part). AreDistinct (roles_in (z ∷ parts))) is d).0 (subst (Contains (roles_in parts)) (sym same) h)

-- no two of them are of one role
pub one_place : (parts : List Part) → AreDistinct (roles_in parts) → (a b : ℕ) (local other : LocalTree) →
    slice_get parts a ≡ Some (Protocol local) → slice_get parts b ≡ Some (Protocol other) → local.me ≡ other.me → a ≡ b
one_place [] d a b local other e f same = absurd cc
one_place (part ∷ parts) d zero zero local other e f same = refl
one_place (part ∷ parts) d zero (suc b) local other e f same =
    absurd (front_differs part parts local d e other.me same (role_in parts b other f))
one_place (part ∷ parts) d (suc a) zero local other e f same =
    absurd (front_differs part parts other d f local.me (sym same) (role_in parts a local e))
one_place (part ∷ parts) d (suc a) (suc b) local other e f same =
    ap suc (one_place parts (rest_differ part parts d) a b local other e f same)

-- so there is one of a role
pub one_protocol : (parts : List Part) → AreDistinct (roles_in parts) → (local other : LocalTree) → Contains (protocols_in parts) local →
    Contains (protocols_in parts) other → local.me ≡ other.me → local ≡ other
one_protocol parts d local other h k same =
    let a = place_of parts local h in
    let b = place_of parts other k in
    let two : Some (Protocol local) ≡ Some (Protocol other) =
    sym a.1 ∙ ap (slice_get parts) (one_place parts d a.0 b.0 local other a.1 b.1 same) ∙ b.1 in cc

-- what a table of places says of a role
module _ {A S : Type 0} (parts : List Part) (places : HashMap (String A) ℕ S) (h : NumbersParts parts places) (role : Name) where
  pub own_none : get_by_text places role ≡ None → Contains (roles_in parts) role → ⊥
  own_none none c =
      let o = Contains-origin (λ (l : LocalTree). l.me) (protocols_in parts) role c in
      let w = place_of parts o.0 o.1 in
      let found : get_by_text places role ≡ Some w.0 = ap (get_by_text places) (sym o.2) ∙ h.all w.0 o.0 w.1 in cc

  module _ (place : ℕ) (found : get_by_text places role ≡ Some place) where
    pub own_within : place < length parts
    own_within = let w = h.right role place found in slice_get_within parts place (Protocol w.0) w.1

    pub own_is : (part : Part) → slice_get parts place ≡ Some part → (o : Option (Bor Local)) → IsProtocolIn part o → IsOwn parts role o
    own_is part at (Some local) is =
        let w = h.right role place found in
        let two : Some (Protocol w.0) ≡ Some (Protocol (local_of local.now)) =
        sym w.1 ∙ at ∙ ap Some (protocol_is part (local_of local.now) is) in
        let same : w.0 ≡ local_of local.now = cc in (
          held_at parts place (local_of local.now) (at ∙ ap Some (protocol_is part (local_of local.now) is)),
          ap (λ (l : LocalTree). l.me) (sym same) ∙ w.2,
        )
    own_is part at None none =
        let w = h.right role place found in
        let two : Some part ≡ Some (Protocol w.0) = sym at ∙ w.1 in
        let same : part ≡ Protocol w.0 = cc in
        let one : w.0 ∷ [] ≡ [] = ap protocol_in (sym same) ∙ none in absurd cc

-- of the parts up to an index
pub record NumbersTo {A S : Type 0} (parts : List Part) (i : ℕ) (places : HashMap (String A) ℕ S) : Type 0 where
  pub right : (role : Name) (place : ℕ) → get_by_text places role ≡ Some place →
      (local : LocalTree) × (slice_get parts place ≡ Some (Protocol local)) × (local.me ≡ role)
  pub all : (place : ℕ) (local : LocalTree) → place < i → slice_get parts place ≡ Some (Protocol local) →
      get_by_text places local.me ≡ Some place

-- of none
pub numbers_start : {A S : Type 0} (parts : List Part) (places : HashMap (String A) ℕ S) → ((q : Name) → get_by_text places q ≡ None) →
    NumbersTo parts 0 places
numbers_start parts places none = record {
  right = λ role place e. let empty : get_by_text places role ≡ None = none role in let never : ⊥ = cc in absurd never;
  all = λ place local low e. absurd (omega (arith, low));
}

-- of all
pub numbers_end : {A S : Type 0} (parts : List Part) (i n : ℕ) (places : HashMap (String A) ℕ S) → NumbersTo parts i places →
    n ≤ i → ((place : ℕ) (local : LocalTree) → slice_get parts place ≡ Some (Protocol local) → place < n) → NumbersParts parts places
numbers_end parts i n places h le within = record {
  right = h.right;
  all = λ place local e. h.all place local (let low = within place local e in omega (arith, low, le)) e;
}

module _ (parts : List Part) (i : ℕ) (part : Part) (at : slice_get parts i ≡ Some part) where
  -- what isn't a protocol adds nothing
  pub numbers_same : {A S : Type 0} (places : HashMap (String A) ℕ S) → NumbersTo parts i places → protocol_in part ≡ [] → NumbersTo parts (i + 1) places
  numbers_same {A} {S} places h none = record { right = h.right; all = all }
    where
      never : (local : LocalTree) → slice_get parts i ≡ Some (Protocol local) → ⊥
      never local e =
          let same : part ≡ Protocol local = cc in
          let one : local ∷ [] ≡ [] = ap protocol_in (sym same) ∙ none in cc

      all : (place : ℕ) (local : LocalTree) → place < i + 1 → slice_get parts place ≡ Some (Protocol local) →
          get_by_text places local.me ≡ Some place
      all place local low e =
          ⊎_elim (λ before. h.all place local before e)
          (λ behind. let now : place ≡ i = omega (arith, low, behind) in
          absurd (never local (subst (λ n. slice_get parts n ≡ Some (Protocol local)) now e))) (cases_lt place i)

  -- a protocol has its number
  module _ (local : LocalTree) (one : protocol_in part ≡ local ∷ []) (differ : AreDistinct (roles_in parts)) where
    here : slice_get parts i ≡ Some (Protocol local)
    here = at ∙ ap Some (protocol_is part local one)

    pub numbers_more : {A S : Type 0} (old new : HashMap (String A) ℕ S) → NumbersTo parts i old →
        ((q : Name) → get_by_text new q ≡ cond (bytes_eq local.me q) (Some i) (get_by_text old q)) → NumbersTo parts (i + 1) new
    numbers_more {A} {S} old new h e = record { right = right; all = all }
      where
        right : (role : Name) (place : ℕ) → get_by_text new role ≡ Some place →
            (l : LocalTree) × (slice_get parts place ≡ Some (Protocol l)) × (l.me ≡ role)
        right role place found = go (bytes_eq local.me role) (bytes_eq-Decides local.me role) (sym (e role) ∙ found)
          where
            go : (b : Bool) → Decides b (local.me ≡ role) → cond b (Some i) (get_by_text old role) ≡ Some place →
                (l : LocalTree) × (slice_get parts place ≡ Some (Protocol l)) × (l.me ≡ role)
            go true d f =
                let same : i ≡ place = cc in
                (local, subst (λ n. slice_get parts n ≡ Some (Protocol local)) same here, d.0 refl)
            go false d f = h.right role place f

        all : (place : ℕ) (l : LocalTree) → place < i + 1 → slice_get parts place ≡ Some (Protocol l) → get_by_text new l.me ≡ Some place
        all place l low f = e l.me ∙ go (bytes_eq local.me l.me) (bytes_eq-Decides local.me l.me)
          where
            go : (b : Bool) → Decides b (local.me ≡ l.me) → cond b (Some i) (get_by_text old l.me) ≡ Some place
            go true d = ap Some (one_place parts differ i place local l here f (d.0 refl))
            go false d =
                ⊎_elim (λ before. h.all place l before f)
                (λ behind. let now : place ≡ i = omega (arith, low, behind) in
                let two : Some (Protocol l) ≡ Some (Protocol local) = sym f ∙ ap (slice_get parts) now ∙ here in
                let same : l ≡ local = cc in
                let no : false ≡ true = d.1 (ap (λ (x : LocalTree). x.me) (sym same)) in absurd cc)
                (cases_lt place i)
