-- A file without a fault is a valid local protocol.
use Rattle.std.proofs.Common.{◌≡◌, ◌≢◌, ⊎_elim, inl, inr, ℕ, List, [], ◌∷◌, ◌++◌, map, Option, Some, None, Bool, true, false, Contains}
use Rattle.std.proofs.Common.{refl, sym, ap, subst, ◌∙◌, true≢false}
use Rattle.std.specs.List.{list_any, flat_map, AllByRecursion}
use Rattle.std.specs.Str.{bytes_eq}
use Rattle.std.proofs.lemmas.List.Elements.{Contains-push, Contains-append_left}
use Rattle.std.proofs.lemmas.Slice.Eq.{bytes_eq-Decides}
use Rattle.mg_text.specs.Call.{Name}
use Rattle.mg_text.specs.declared.place.Place.{Place}
use Rattle.mg_read.specs.Culprit.{Culprit, culprit}
use Rattle.mg_read.specs.First.{FirstOf, none, this, next, Clean, with_earlier, behind}
use Rattle.mg_read.proofs.Judging.{judged-clean}
use Rattle.scr_tree.specs.declared.written.Declaration.{Declaration}
use Rattle.scr_tree.specs.declared.written.Role.{Role}
use Rattle.scr_tree.specs.Actions.{NameClash, actions, all_actions, next as next_number}
use Rattle.scr_tree.specs.Conditions as says
use Rattle.scr_tree.specs.Faults.{IsFault}
use Rattle.scr_tree.specs.Going.{Unguarded, UnknownProtocol, DuplicateProtocol, RolesDiffer, told_in, NotLast, all_held, StartsWithDo}
use Rattle.scr_tree.specs.Going.{first_of_several, has_deed, first_do}
use Rattle.scr_tree.specs.Listing.{Entry, declares, lists, listed, DuplicateName, UnknownRole, Mention, within, mentions_in, mentions}
use Rattle.scr_tree.specs.Spots.{Spot, spots, each_of, all_spots, spots_of}
use Rattle.scr_tree.specs.States.{TooManyStates, states, all_states}
use Rattle.scr_tree.specs.Tree.{Titled, Statements, titled, other, body_in, bodies_in}
use Rattle.scr_tree.specs.Valid.{AreDistinct, IsWritten, IsValid, names_in}
use Rattle.scr_tree.specs.Written.{WrittenPart, WrittenTree, parts_in, role_name, roles_in, me_in, name_in, body_of, title_of, part_meant}
use Rattle.scr_tree.specs.Written.{local_of}
use Rattle.scr_judge.proofs.Earlier.{behind-append}
use Rattle.scr_judge.proofs.Members.{Contains-nil, Contains-cons_cases, Contains-image}
use Rattle.scr_judge.proofs.Words.{any_to, any_from}

-- the first condition has no culprit, and those behind it have none
pub split : {K C : Type 0} {Of : K → Option C → Type 0} {k : K} {ks : List K} → FirstOf Of (k ∷ ks) None → Of k None × FirstOf Of ks None
split {K} {C} {Of} {k} {ks} p = go _ _ p refl refl
  where
    go : (ls : List K) (r : Option (K × C)) → FirstOf Of ls r → ls ≡ k ∷ ks → r ≡ None → Of k None × FirstOf Of ks None
    go ls r none e n = let no : ⊥ = cc in absurd no
    go ls r (this a) e n = let no : ⊥ = cc in absurd no
    go ls r (next {k = j} {ks = js} a q) e n =
        let same : j ≡ k = cc in let rest : js ≡ ks = cc in (
          subst (λ z. Of z None) same a,
          subst (λ s. FirstOf Of ks s) n
              (subst (λ zs. FirstOf Of zs r) rest q),
        )

module _ {X C : Type 0} (At : X → C → Type 0) where
  clean_behind : (xs ys : List X) → Clean At (xs ++ ys) → Clean At ys
  clean_behind [] ys h = h
  clean_behind (x ∷ xs) ys h = clean_behind xs ys h.1

-- roles
clash : (seen : List Entry) (rs : List Role) (r : Role) → Contains seen (lists r) → Clean DuplicateName (behind seen (map lists rs)) →
    Contains (map role_name rs) r.name → ⊥
clash seen [] r listed h c = Contains-nil r.name c
clash seen (x ∷ rs) r listed h c =
    ⊎_elim (λ same. h.0 (culprit x.place x.name) (refl, r, listed, sym same))
    (λ more. clash (seen ++ lists x ∷ []) rs r (Contains-append_left seen (lists x ∷ []) (lists r) listed) h.1 more)
    (Contains-cons_cases (map role_name rs) x.name r.name c)

distinct : (seen : List Entry) (rs : List Role) → Clean DuplicateName (behind seen (map lists rs)) → AreDistinct (map role_name rs)
distinct seen [] h = tt
distinct seen (r ∷ rs) h = (clash (seen ++ lists r ∷ []) rs r (Contains-push seen (lists r)) h.1, distinct (seen ++ lists r ∷ []) rs h.1)

pub roles_differ : (ds : List Declaration) (rs : List Role) → Clean DuplicateName (with_earlier (map declares ds ++ map lists rs)) →
    AreDistinct (map role_name rs)
roles_differ ds rs h =
    distinct (map declares ds) rs
    (clean_behind DuplicateName (with_earlier (map declares ds)) _
    (subst (λ qs. Clean DuplicateName qs) (behind-append [] (map declares ds) (map lists rs)) h))

-- what is not unlisted is listed
is_listed : (names : List Name) (name : Name) → ((Contains names name → ⊥) → ⊥) → Contains names name
is_listed names name h = go (list_any (bytes_eq name) names) refl
  where
    go : (b : Bool) → list_any (bytes_eq name) names ≡ b → Contains names name
    go true e = any_to name names e
    go false e = absurd (h (λ c. true≢false (sym (any_from name names c) ∙ e)))

-- ---- the protocols of a file without a fault have one role and one list of roles

name_same : (x y : Name) → ((x ≢ y) → ⊥) → x ≡ y
name_same x y h = go (bytes_eq x y) refl
  where
    go : (b : Bool) → bytes_eq x y ≡ b → x ≡ y
    go true e = (bytes_eq-Decides x y).0 e
    go false e = absurd (h (λ same. true≢false (sym ((bytes_eq-Decides x y).1 same) ∙ e)))

names_same : (xs ys : List Name) → ((xs ≢ ys) → ⊥) → xs ≡ ys
names_same [] [] h = refl
names_same [] (y ∷ ys) h = absurd (h (λ e. let no : ⊥ = cc in no))
names_same (x ∷ xs) [] h = absurd (h (λ e. let no : ⊥ = cc in no))
names_same (x ∷ xs) (y ∷ ys) h =
    let first = name_same x y (λ n. h (λ e. let f : x ≡ y = cc in n f)) in
    let rest = names_same xs ys (λ n. h (λ e. let f : xs ≡ ys = cc in n f)) in
    λ i. first i ∷ rest i

-- the same role and roles as this protocol
abbrev Alike : WrittenPart → WrittenPart → Type 0
Alike first p = (me_in p ≡ me_in first) × (roles_in p ≡ roles_in first)

clean_front : {X C : Type 0} (At : X → C → Type 0) (xs ys : List X) → Clean At (xs ++ ys) → Clean At xs
clean_front At [] ys h = tt
clean_front At (x ∷ xs) ys h = (h.0, clean_front At xs ys h.1)

alike : (first : WrittenPart) (ps : List WrittenPart) → Clean (RolesDiffer first) (flat_map told_in ps) → AllByRecursion (Alike first) ps
alike first [] h = tt
alike first (p ∷ ps) h = (
  (
    name_same (me_in p) (me_in first) (λ n. h.0 (culprit p.place p.name) (refl, inr n)),
    names_same (roles_in p) (roles_in first)
        (λ n. h.0 (culprit p.place p.name) (refl, inl n)),
  ),
  alike first ps (clean_behind (RolesDiffer first) (told_in p) (flat_map told_in ps) h),
)

-- what is asked of each with its own role is asked of all with one
module _ (At : Name → Spot → Culprit → Type 0) (first : WrittenPart) where
  unpaired : (p : WrittenPart) (xs : List Spot) → me_in p ≡ me_in first → Clean (λ (q : WrittenPart × Spot). At (me_in q.0) q.1)
      (map (λ x. (p, x)) xs) → Clean (At (me_in first)) xs
  unpaired p [] e h = tt
  unpaired p (x ∷ xs) e h = (λ c a. h.0 c (subst (λ me. At me x c) (sym e) a), unpaired p xs e h.1)

  clean_both : (xs ys : List Spot) → Clean (At (me_in first)) xs → Clean (At (me_in first)) ys → Clean (At (me_in first)) (xs ++ ys)
  clean_both [] ys h g = g
  clean_both (x ∷ xs) ys h g = (h.0, clean_both xs ys h.1 g)

  as_one : (ps : List WrittenPart) → AllByRecursion (Alike first) ps → Clean (λ (q : WrittenPart × Spot). At (me_in q.0) q.1)
      (spots_of body_of ps) → Clean (At (me_in first)) (all_spots (map body_of ps))
  as_one [] a h = tt
  as_one (p ∷ ps) a h =
      let own : List (WrittenPart × Spot) = map (λ x. (p, x)) (spots [] p.body) in
      clean_both (spots [] p.body) (all_spots (map body_of ps))
      (unpaired p (spots [] p.body) a.0.0 (clean_front (λ (q : WrittenPart × Spot). At (me_in q.0) q.1) own (spots_of body_of ps) h))
      (as_one ps a.1 (clean_behind (λ (q : WrittenPart × Spot). At (me_in q.0) q.1) own (spots_of body_of ps) h))

-- the mentions of each protocol, of the role itself and in the statements
roles_as_one : (first : WrittenPart) (ps : List WrittenPart) → AllByRecursion (Alike first) ps →
    Clean (λ (q : WrittenPart × Mention). UnknownRole (roles_in q.0) q.1) (each_of mentions_in ps) →
    Clean (says.UnknownRole (roles_in first)) (all_spots (map body_of ps))
roles_as_one first [] a h = tt
roles_as_one first (p ∷ ps) a h =
    let own : List (WrittenPart × Mention) = map (λ x. (p, x)) (mentions_in p) in
    both (spots [] p.body) (all_spots (map body_of ps))
    (within_one (spots [] p.body) (clean_front (λ (q : WrittenPart × Mention). UnknownRole (roles_in q.0) q.1) own (each_of mentions_in ps)
    h).1)
    (roles_as_one first ps a.1 (clean_behind (λ (q : WrittenPart × Mention). UnknownRole (roles_in q.0) q.1) own (each_of mentions_in ps)
    h))
  where
    within_one : (xs : List Spot) → Clean (λ (q : WrittenPart × Mention). UnknownRole (roles_in q.0) q.1)
        (map (λ x. (p, x)) (map within xs)) → Clean (says.UnknownRole (roles_in first)) xs
    within_one [] g = tt
    within_one (x ∷ xs) g = (λ c u. g.0 c (subst (λ rs. says.UnknownRole rs x c) (sym a.0.1) u), within_one xs g.1)

    both : (xs ys : List Spot) → Clean (says.UnknownRole (roles_in first)) xs → Clean (says.UnknownRole (roles_in first)) ys →
        Clean (says.UnknownRole (roles_in first)) (xs ++ ys)
    both [] ys f g = g
    both (x ∷ xs) ys f g = (f.0, both xs ys f.1 g)

-- ---- the protocols that are meant

titles_meant : (ps : List WrittenPart) → map other (map part_meant ps) ≡ map title_of ps
titles_meant [] = refl
titles_meant (p ∷ ps) = ap (λ (l : List Titled). title_of p ∷ l) (titles_meant ps)

bodies_meant : (ps : List WrittenPart) → map body_in (map title_of ps) ≡ map body_of ps
bodies_meant [] = refl
bodies_meant (p ∷ ps) = ap (λ (l : List Statements). p.body ∷ l) (bodies_meant ps)

names_meant : (ps : List WrittenPart) → map (λ (t : Titled). t.name) (map title_of ps) ≡ map name_in ps
names_meant [] = refl
names_meant (p ∷ ps) = ap (λ (l : List Name). p.name ∷ l) (names_meant ps)

actions_meant : (first : WrittenPart) (n : ℕ) (ps : List WrittenPart) → AllByRecursion (Alike first) ps →
    all_actions me_in body_of n ps ≡ all_actions (λ (t : Titled). me_in first) body_in n (map title_of ps)
actions_meant first n [] a = refl
actions_meant first n (p ∷ ps) a =
    ap (λ me. actions me n p.body ++ all_actions me_in body_of (next_number me n p.body) ps) a.0.0
    ∙ ap (λ l. actions (me_in first) n p.body ++ l) (actions_meant first (next_number (me_in first) n p.body) ps a.1)

states_meant : (first : WrittenPart) (ps : List WrittenPart) → AllByRecursion (Alike first) ps →
    all_states me_in body_of ps ≡ all_states (λ (t : Titled). me_in first) body_in (map title_of ps)
states_meant first [] a = refl
states_meant first (p ∷ ps) a = ap (λ me. states me p.body ++ all_states me_in body_of ps) a.0.0 ∙
    ap (λ l. states (me_in first) p.body ++ l) (states_meant first ps a.1)

-- no two protocols have one name
clash_names : (seen ps : List WrittenPart) (r : WrittenPart) → Contains seen r → Clean DuplicateProtocol (behind seen ps) →
    Contains (map name_in ps) r.name → ⊥
clash_names seen [] r listed h c = Contains-nil r.name c
clash_names seen (x ∷ ps) r listed h c =
    ⊎_elim (λ same. h.0 (culprit x.place x.name) (
      refl,
      subst (Contains (map name_in seen)) (sym same)
          (Contains-image name_in seen r listed),
    ))
    (λ more. clash_names (seen ++ x ∷ []) ps r (Contains-append_left seen (x ∷ []) r listed) h.1 more)
    (Contains-cons_cases (map name_in ps) x.name r.name c)

names_differ : (seen ps : List WrittenPart) → Clean DuplicateProtocol (behind seen ps) → AreDistinct (map name_in ps)
names_differ seen [] h = tt
names_differ seen (p ∷ ps) h = (clash_names (seen ++ p ∷ []) ps p (Contains-push seen p) h.1, names_differ (seen ++ p ∷ []) ps h.1)

-- the first of several acts before it goes on
acts_before : (first : WrittenPart) (others : List WrittenPart) → Clean StartsWithDo (first_of_several first others) →
    (map part_meant others ≢ []) →
    (has_deed first.body ≡ true) × (first_do (spots [] first.body) ≡ None)
acts_before first [] h n = absurd (n refl)
acts_before first (p ∷ ps) h n =
    let deed : has_deed first.body ≡ true = acts (has_deed first.body) refl in
    (deed, comes (first_do (spots [] first.body)) refl deed)
  where
    acts : (b : Bool) → has_deed first.body ≡ b → has_deed first.body ≡ true
    acts true e = e
    acts false e = absurd (h.0 (culprit first.place first.name) (inl (refl, e)))

    comes : (o : Option Place) → first_do (spots [] first.body) ≡ o → has_deed first.body ≡ true → first_do (spots [] first.body) ≡ None
    comes None e deed = e
    comes (Some place) e deed = absurd (h.0 (culprit place first.name) (inr (place, refl, deed, e)))

pub faultless : (w : WrittenTree) → IsFault w None → IsWritten (local_of w) → IsValid (local_of w)
faultless w f written =
    let a = split f in let b = split a.1 in let c = split b.1 in let d = split c.1 in let e = split d.1 in
    let g = split e.1 in let h = split g.1 in let i = split h.1 in let j = split i.1 in let k = split j.1 in
    let l = split k.1 in let m = split l.1 in let n = split m.1 in let o = split n.1 in let p = split o.1 in
    let q = split p.1 in let r = split q.1 in let s = split r.1 in let t = split s.1 in let u = split t.1 in
    let ps : List WrittenPart = parts_in w in
    let one : AllByRecursion (Alike w.first) ps = alike w.first ps (judged-clean s.0) in
    let mentioned : Clean (λ (x : WrittenPart × Mention). UnknownRole (roles_in x.0) x.1) (mentions w) = judged-clean b.0 in
    let titles : titled (local_of w) ≡ map title_of ps = ap (λ (ts : List Titled). title_of w.first ∷ ts) (titles_meant w.others) in
    let bodies : map body_of ps ≡ bodies_in (local_of w) = sym (ap (map body_in) titles ∙ bodies_meant ps) in
    let names : map name_in ps ≡ names_in (local_of w) = sym (ap (map (λ (x : Titled). x.name)) titles ∙ names_meant ps) in
    record {
      written = written;
      roles_differ = roles_differ w.types w.first.roles
          (clean_front DuplicateName (with_earlier (map declares w.types ++ map lists w.first.roles)) (listed w.others) (judged-clean a.0));
      me_listed = is_listed (roles_in w.first) (me_in w.first) (λ unlisted. mentioned.0 (culprit w.first.me.place w.first.me.name)
          (refl, unlisted));
      roles_listed = subst (λ x. Clean (says.UnknownRole (roles_in w.first)) (all_spots x)) bodies (roles_as_one w.first ps one mentioned);
      peers_apart = subst (λ x. Clean (says.PeerIsSelf (me_in w.first)) (all_spots x)) bodies
          (as_one says.PeerIsSelf w.first ps one (judged-clean c.0));
      recs_known = subst (λ x. Clean says.UnknownRec (all_spots x)) bodies (judged-clean g.0);
      recs_differ = subst (λ x. Clean says.DuplicateRec (all_spots x)) bodies (judged-clean h.0);
      guarded = subst (λ ts. Clean (Unguarded ts) (spots_of body_in ts)) (sym titles) (judged-clean i.0);
      reachable = subst (λ x. Clean says.Unreachable (all_spots x)) bodies (judged-clean j.0);
      starts = subst (λ x. Clean says.BranchStart (all_spots x)) bodies (judged-clean k.0);
      uniform = subst (λ x. Clean (says.MixedChoice (me_in w.first)) (all_spots x)) bodies
          (as_one says.MixedChoice w.first ps one (judged-clean l.0));
      labels_differ = subst (λ x. Clean (says.SameLabel (me_in w.first)) (all_spots x)) bodies
          (as_one says.SameLabel w.first ps one (judged-clean m.0));
      labels_free = subst (λ x. Clean (says.ReservedLabel (me_in w.first)) (all_spots x)) bodies
          (as_one says.ReservedLabel w.first ps one (judged-clean n.0));
      one_action = subst (λ ts. Clean NameClash (with_earlier (all_actions (λ (x : Titled). me_in w.first) body_in 1 ts))) (sym titles)
          (subst (λ xs. Clean NameClash (with_earlier xs)) (actions_meant w.first 1 ps one) (judged-clean o.0));
      few_states = subst (λ ts. Clean (TooManyStates w.file) (all_states (λ (x : Titled). me_in w.first) body_in ts ∷ [])) (sym titles)
          (subst (λ xs. Clean (TooManyStates w.file) (xs ∷ [])) (states_meant w.first ps one) (judged-clean p.0));
      protocols_known = subst (λ x. Clean (UnknownProtocol x) (all_spots (bodies_in (local_of w)))) names
          (subst (λ x. Clean (UnknownProtocol (map name_in ps)) (all_spots x)) bodies (judged-clean q.0));
      protocols_differ = subst AreDistinct names (names_differ [] ps (judged-clean r.0));
      last = subst (λ x. Clean NotLast (all_held x)) bodies (judged-clean t.0);
      acts_first = acts_before w.first w.others (judged-clean u.0);
    }
