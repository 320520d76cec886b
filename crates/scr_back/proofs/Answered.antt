-- What reading a printed protocol gives: the same protocol, without a fault.
use Rattle.std.proofs.Common.{◌≡◌, ◌≢◌, ℕ, suc, ◌<◌, ◌≤◌, ⊎_elim, inl, inr, Bool, true, false, ◌||◌, List, [], ◌∷◌, ◌++◌, length, map}
use Rattle.std.proofs.Common.{Option, Some, None, Contains, refl, sym, ap, subst, ◌∙◌, true≢false, arith, length-append}
use Rattle.std.specs.List.{flat_map, list_any, AllByRecursion}
use Rattle.std.proofs.lemmas.List.Elements.{Contains-push_cases}
use Rattle.mg_text.specs.Call.{Name}
use Rattle.mg_text.specs.Places.{start_of}
use Rattle.mg_text.specs.declared.place.Place.{Place}
use Rattle.mg_read.specs.Culprit.{Culprit, culprit}
use Rattle.mg_read.specs.First.{none, next, Clean, behind, with_earlier}
use Rattle.mg_read.proofs.Judging.{clean-judged}
use Rattle.scr_tree.specs.declared.written.Declaration.{Declaration}
use Rattle.scr_tree.specs.declared.written.Role.{Role}
use Rattle.scr_tree.specs.Tree.{LocalTree, PartTree, Titled, titled, other, body_in, bodies_in, Statements, Nothing, Says, Choice, Rec}
use Rattle.scr_tree.specs.Tree.{Continue, Do, Branches, NoBranch, Branch}
use Rattle.scr_tree.specs.Spots.{Spot, spot, spots, each_of, all_spots, spots_of}
use Rattle.scr_tree.specs.Actions.{NameClash, actions, all_actions}
use Rattle.scr_tree.specs.Actions as acts
use Rattle.scr_tree.specs.States.{TooManyStates, states, all_states}
use Rattle.scr_tree.specs.Conditions as says
use Rattle.scr_tree.specs.Going.{UnknownProtocol, DuplicateProtocol, RolesDiffer, heads, gives, told_in, Held, held, held_in, all_held}
use Rattle.scr_tree.specs.Going.{is_some_statement, NotLast, is_deed, has_deed, first_do, first_of_several, StartsWithDo}
use Rattle.scr_tree.specs.Going as going
use Rattle.scr_tree.specs.Listing.{Entry, declares, lists, listed, entries, DuplicateName, UnknownRole, itself, within, mentions_in}
use Rattle.scr_tree.specs.Listing.{mentions, Typed, declared, carried, carried_by, UnknownType, typed, PayloadCount, all_carries}
use Rattle.scr_tree.specs.Faults.{IsFault}
use Rattle.scr_tree.specs.Valid.{AreDistinct, IsValid, names_in}
use Rattle.scr_tree.specs.Written.{Carries, Arguments, WrittenPart, WrittenTree, parts_in, role_name, roles_in, me_in, name_in, body_of}
use Rattle.scr_tree.specs.Written.{title_of, local_of}
use Rattle.scr_judge.proofs.Members.{Contains-first, Contains-later, Contains-image, Contains-origin}
use Rattle.scr_read.specs.Outcome.{Outcome, Protocol, found}
use Rattle.scr_read.specs.Layout.{layout}
use Rattle.scr_back.specs.Same.{AreSame, AreSameBranches, IsSame}
use Rattle.scr_back.proofs.Said.{IsPlain, PlainCarried, GivenAll}
use Rattle.scr_back.proofs.Spots.{Zip, zip-append, SameSpot, clean_same, spots_same}
use Rattle.scr_back.proofs.Kept.{Follows, role_kept, self_kept, rec_kept, twice_kept, reach_kept, start_kept, mixed_kept, label_kept}
use Rattle.scr_back.proofs.Kept.{free_kept}
use Rattle.scr_back.proofs.Actions.{SameAction, next_same, actions_same, clash_kept, count_same}
use Rattle.scr_back.proofs.Rounds.{SameTitle, guards_kept}
use Rattle.scr_back.proofs.WholeFile.{SamePart, SameParts, is_same, printed}

-- ---- lists without a culprit

clean_front : {X : Type 0} (At : X → Culprit → Type 0) (xs ys : List X) → Clean At (xs ++ ys) → Clean At xs
clean_front At [] ys h = tt
clean_front At (x ∷ xs) ys h = (h.0, clean_front At xs ys h.1)

clean_behind : {X : Type 0} (At : X → Culprit → Type 0) (xs ys : List X) → Clean At (xs ++ ys) → Clean At ys
clean_behind At [] ys h = h
clean_behind At (x ∷ xs) ys h = clean_behind At xs ys h.1

clean_both : {X : Type 0} (At : X → Culprit → Type 0) (xs ys : List X) → Clean At xs → Clean At ys → Clean At (xs ++ ys)
clean_both At [] ys h g = g
clean_both At (x ∷ xs) ys h g = (h.0, clean_both At xs ys h.1 g)

clean_image : {X Y : Type 0} (At : X → Culprit → Type 0) (f : Y → X) (ys : List Y) → Clean (λ y. At (f y)) ys → Clean At (map f ys)
clean_image At f [] h = tt
clean_image At f (y ∷ ys) h = (h.0, clean_image At f ys h.1)

clean_zip : {X Y : Type 0} (R : X → Y → Type 0) (At : X → Culprit → Type 0) (By : Y → Culprit → Type 0) →
    ((x : X) (y : Y) → R x y → (c : Culprit) → By y c → (d : Culprit) × At x d) →
    (xs : List X) (ys : List Y) → Zip R xs ys → Clean At xs → Clean By ys
clean_zip R At By f [] [] z h = tt
clean_zip R At By f (x ∷ xs) (y ∷ ys) z h = ((λ c b. let d = f x y z.0 c b in h.0 d.0 d.1), clean_zip R At By f xs ys z.1 h.1)
clean_zip R At By f [] (y ∷ ys) z h = absurd z
clean_zip R At By f (x ∷ xs) [] z h = absurd z

-- ---- roles

apart : (seen : List Entry) (rs : List Role) → ((r other : Role) → Contains seen (lists other) → Contains rs r → other.name ≡ r.name → ⊥) →
    AreDistinct (map role_name rs) →
    Clean DuplicateName (behind seen (map lists rs))
apart seen [] far d = tt
apart seen (r ∷ rs) far d = (
  λ c x. far r x.1 x.2 (Contains-first rs r) x.3,
  apart (seen ++ lists r ∷ []) rs
      (λ u other has inside same. ⊎_elim (λ old. far u other old (Contains-later rs r u inside) same)
      (λ new. let is : r ≡ other = cc in d.0 (subst (Contains (map role_name rs)) (sym (ap role_name is ∙ same))
      (Contains-image role_name rs u inside)))
      (Contains-push_cases seen (lists r) (lists other) has)) d.1,
)

no_entries : (e : Entry) → Contains [] e → ⊥
no_entries e c = omega (arith, c.1)

clean_names : (types : List Declaration) (rs : List Role) → types ≡ [] → AreDistinct (map role_name rs) →
    Clean DuplicateName (with_earlier (map declares types ++ map lists rs))
clean_names types rs e d =
    subst (λ ts. Clean DuplicateName (with_earlier (map declares ts ++ map lists rs))) (sym e)
    (apart [] rs (λ r other has inside same. no_entries (lists other) has) d)

-- ---- types

plain_types : (place : Place) (types : List Name) → IsPlain types → (rest : List Typed) → Clean (UnknownType []) rest →
    Clean (UnknownType []) (map (carried place) types ++ rest)
plain_types place [] h rest g = g
plain_types place (t ∷ []) h rest g = ((λ c x. x.1 (inl h)), g)
plain_types place (t ∷ u ∷ more) h rest g = absurd h

clean_carried : (ms : List Carries) → PlainCarried ms → Clean (UnknownType []) (flat_map carried_by ms)
clean_carried [] h = tt
clean_carried (m ∷ ms) h = plain_types m.place m.types h.0 (flat_map carried_by ms) (clean_carried ms h.1)

clean_types : (types : List Declaration) (ms : List Carries) → types ≡ [] → PlainCarried ms →
    Clean (UnknownType types) (map declared types ++ flat_map carried_by ms)
clean_types types ms e h = subst (λ ts. Clean (UnknownType ts) (map declared ts ++ flat_map carried_by ms)) (sym e) (clean_carried ms h)

few : (types : List Name) → IsPlain types → 2 ≤ length types → ⊥
few [] h l = omega (arith, l)
few (t ∷ []) h l = omega (arith, l)
few (t ∷ u ∷ more) h l = absurd h

clean_counts : (ms : List Carries) → PlainCarried ms → Clean PayloadCount ms
clean_counts [] h = tt
clean_counts (m ∷ ms) h = ((λ c x. few m.types h.0 x.1), clean_counts ms h.1)

plain_both : (ms ns : List Carries) → PlainCarried ms → PlainCarried ns → PlainCarried (ms ++ ns)
plain_both [] ns h g = g
plain_both (m ∷ ms) ns h g = (h.0, plain_both ms ns h.1 g)

-- ---- what is held

-- `do`s that are followed alike
abbrev SameHeld : Held → Held → Type 0
SameHeld h k = h.followed ≡ k.followed

some_same : (s t : Statements) → AreSame s t → is_some_statement s ≡ is_some_statement t
some_same Nothing Nothing e = refl
some_same (Says m r) (Says n o) e = refl
some_same (Choice p at bs r) (Choice q by cs o) e = refl
some_same (Rec p name body r) (Rec q word inner o) e = refl
some_same (Continue p name r) (Continue q word o) e = refl
some_same (Do p name r) (Do q word o) e = refl
some_same _ _ e = absurd e

mutual
  held_same : (f g : Bool) (s t : Statements) → f ≡ g → AreSame s t → Zip SameHeld (held f s) (held g t)
  held_same f g Nothing Nothing i e = tt
  held_same f g (Says m r) (Says n o) i e = held_same f g r o i e.1
  held_same f g (Choice p at bs r) (Choice q by cs o) i e =
      zip-append SameHeld (held_in (f || is_some_statement r) bs) (held f r) (held_in (g || is_some_statement o) cs) (held g o)
      (held_in_same _ _ bs cs (λ j. i j || some_same r o e.2 j) e.1) (held_same f g r o i e.2)
  held_same f g (Rec p name body r) (Rec q word inner o) i e =
      zip-append SameHeld (held (f || is_some_statement r) body) (held f r) (held (g || is_some_statement o) inner) (held g o)
      (held_same _ _ body inner (λ j. i j || some_same r o e.2 j) e.1) (held_same f g r o i e.2)
  held_same f g (Continue p name r) (Continue q word o) i e = held_same f g r o i e.1
  held_same f g (Do p name r) (Do q word o) i e = (i, held_same f g r o i e.1)
  held_same f g _ _ i e = absurd e

  held_in_same : (f g : Bool) (bs cs : Branches) → f ≡ g → AreSameBranches bs cs → Zip SameHeld (held_in f bs) (held_in g cs)
  held_in_same f g NoBranch NoBranch i e = tt
  held_in_same f g (Branch b more) (Branch d others) i e =
      zip-append SameHeld (held f b) (held_in f more) (held g d) (held_in g others) (held_same f g b d i e.0)
      (held_in_same f g more others i e.1)
  held_in_same f g _ _ i e = absurd e

last_kept : (h k : Held) → SameHeld h k → (c : Culprit) → NotLast k c → (d : Culprit) × NotLast h d
last_kept h k e c a = (culprit h.place h.name, (refl, e ∙ a.1))

-- ---- what comes first

deed_same : (x y : Spot) → SameSpot x y → is_deed x ≡ is_deed y
deed_same (spot w s) (spot v t) h = go s t h.1
  where
    go : (s t : Statements) → AreSame s t → is_deed (spot w s) ≡ is_deed (spot v t)
    go Nothing Nothing e = refl
    go (Says m r) (Says n o) e = refl
    go (Choice p at bs r) (Choice q by cs o) e = refl
    go (Rec p name body r) (Rec q word inner o) e = refl
    go (Continue p name r) (Continue q word o) e = refl
    go (Do p name r) (Do q word o) e = refl
    go _ _ e = absurd e

any_same : (xs ys : List Spot) → Zip SameSpot xs ys → list_any is_deed xs ≡ list_any is_deed ys
any_same [] [] z = refl
any_same (x ∷ xs) (y ∷ ys) z = λ i. deed_same x y z.0 i || any_same xs ys z.1 i
any_same [] (y ∷ ys) z = absurd z
any_same (x ∷ xs) [] z = absurd z

none_first : (xs ys : List Spot) → Zip SameSpot xs ys → first_do xs ≡ None → first_do ys ≡ None
none_first [] [] z e = refl
none_first (spot w s ∷ xs) (spot v t ∷ ys) z e = go s t (none_first xs ys z.1) z.0.1 e
  where
    go : (s t : Statements) → (first_do xs ≡ None → first_do ys ≡ None) → AreSame s t → first_do (spot w s ∷ xs) ≡ None →
        first_do (spot v t ∷ ys) ≡ None
    go Nothing Nothing more g e = more e
    go (Says m r) (Says n o) more g e = refl
    go (Choice p at bs r) (Choice q by cs o) more g e = refl
    go (Rec p name body r) (Rec q word inner o) more g e = more e
    go (Continue p name r) (Continue q word o) more g e = more e
    go (Do p name r) (Do q word o) more g e = let no : ⊥ = cc in absurd no
    go _ _ more g e = absurd g
none_first [] (y ∷ ys) z e = absurd z
none_first (x ∷ xs) [] z e = absurd z

-- ---- protocols that are known

protocol_kept : (names : List Name) → Follows (UnknownProtocol names)
protocol_kept names (spot w s) (spot v t) h = go s t h.1
  where
    go : (s t : Statements) → AreSame s t → (c : Culprit) → UnknownProtocol names (spot v t) c → (d : Culprit) × UnknownProtocol names
        (spot w s) d
    go (Do p name r) (Do q word o) e c a = (culprit p name, (refl, λ l. a.1 (subst (Contains names) e.0 l)))
    go Nothing Nothing e c a = absurd a
    go (Says m r) (Says n o) e c a = absurd a
    go (Choice p at bs r) (Choice q by cs o) e c a = absurd a
    go (Rec p name body r) (Rec q word inner o) e c a = absurd a
    go (Continue p name r) (Continue q word o) e c a = absurd a
    go _ _ e c a = absurd e

names_apart : (seen ps : List WrittenPart) → ((p q : WrittenPart) → Contains seen q → Contains ps p → q.name ≡ p.name → ⊥) →
    AreDistinct (map name_in ps) → Clean DuplicateProtocol (behind seen ps)
names_apart seen [] far d = tt
names_apart seen (p ∷ ps) far d = (
  λ c x. let o = Contains-origin name_in seen p.name x.1 in far p o.0 o.1 (Contains-first ps p) o.2,
  names_apart (seen ++ p ∷ []) ps
      (λ u q has inside same. ⊎_elim (λ old. far u q old (Contains-later ps p u inside) same)
      (λ new. d.0 (subst (Contains (map name_in ps)) (sym (subst (λ (z : WrittenPart). z.name ≡ u.name) (sym new) same))
      (Contains-image name_in ps u inside)))
      (Contains-push_cases seen p q has)) d.1,
)

no_part : (p : WrittenPart) → Contains [] p → ⊥
no_part p c = omega (arith, c.1)

-- ---- protocol by protocol

module _ (me : Name) (roles : List Name) where
  -- a condition of statements
  parts_kept : (At : Spot → Culprit → Type 0) → Follows At → (ts : List Titled) (ps : List WrittenPart) → SameParts me roles ts ps →
      Clean At (all_spots (map body_in ts)) → Clean At (all_spots (map body_of ps))
  parts_kept At f [] [] h g = tt
  parts_kept At f (t ∷ ts) (p ∷ ps) h g =
      clean_both At (spots [] p.body) (all_spots (map body_of ps))
      (clean_same At At f (spots [] t.body) (spots [] p.body) (spots_same [] [] t.body p.body tt h.0.body)
      (clean_front At (spots [] t.body) (all_spots (map body_in ts)) g))
      (parts_kept At f ts ps h.1 (clean_behind At (spots [] t.body) (all_spots (map body_in ts)) g))
  parts_kept At f [] (p ∷ ps) h g = absurd h
  parts_kept At f (t ∷ ts) [] h g = absurd h

  -- one that asks for the role
  own_kept : (At : Name → Spot → Culprit → Type 0) → Follows (At me) → (ts : List Titled) (ps : List WrittenPart) → SameParts me roles ts ps
      → Clean (At me) (all_spots (map body_in ts)) →
      Clean (λ (q : WrittenPart × Spot). At (me_in q.0) q.1) (spots_of body_of ps)
  own_kept At f [] [] h g = tt
  own_kept At f (t ∷ ts) (p ∷ ps) h g =
      clean_both (λ (q : WrittenPart × Spot). At (me_in q.0) q.1) (map (λ x. (p, x)) (spots [] p.body)) (spots_of body_of ps)
      (clean_image (λ (q : WrittenPart × Spot). At (me_in q.0) q.1) (λ x. (p, x)) (spots [] p.body)
      (subst (λ m. Clean (At m) (spots [] p.body)) h.0.me_same
      (clean_same (At me) (At me) f (spots [] t.body) (spots [] p.body) (spots_same [] [] t.body p.body tt h.0.body)
      (clean_front (At me) (spots [] t.body) (all_spots (map body_in ts)) g))))
      (own_kept At f ts ps h.1 (clean_behind (At me) (spots [] t.body) (all_spots (map body_in ts)) g))
  own_kept At f [] (p ∷ ps) h g = absurd h
  own_kept At f (t ∷ ts) [] h g = absurd h

  -- the roles that are mentioned
  mentioned : Contains roles me → (ts : List Titled) (ps : List WrittenPart) → SameParts me roles ts ps →
      Clean (says.UnknownRole roles) (all_spots (map body_in ts)) →
      Clean (λ (q : WrittenPart × _). UnknownRole (roles_in q.0) q.1) (each_of mentions_in ps)
  mentioned in_roles [] [] h g = tt
  mentioned in_roles (t ∷ ts) (p ∷ ps) h g =
      clean_both (λ (q : WrittenPart × _). UnknownRole (roles_in q.0) q.1) (map (λ x. (p, x)) (mentions_in p)) (each_of mentions_in ps)
      (clean_image (λ (q : WrittenPart × _). UnknownRole (roles_in q.0) q.1) (λ x. (p, x)) (mentions_in p) (
        λ c x. x.1 (subst (λ rs. Contains rs p.me.name) h.0.roles_same (subst (Contains roles) h.0.me_same in_roles)),
        clean_image (UnknownRole (roles_in p)) within (spots [] p.body)
            (subst (λ rs. Clean (says.UnknownRole rs) (spots [] p.body)) h.0.roles_same
            (clean_same (says.UnknownRole roles) (says.UnknownRole roles) (role_kept roles) (spots [] t.body) (spots [] p.body)
            (spots_same [] [] t.body p.body tt h.0.body)
            (clean_front (says.UnknownRole roles) (spots [] t.body) (all_spots (map body_in ts)) g))),
      ))
      (mentioned in_roles ts ps h.1 (clean_behind (says.UnknownRole roles) (spots [] t.body) (all_spots (map body_in ts)) g))
  mentioned in_roles [] (p ∷ ps) h g = absurd h
  mentioned in_roles (t ∷ ts) [] h g = absurd h

  -- the roles that are listed
  listed_clean : AreDistinct roles → (ts : List Titled) (ps : List WrittenPart) → SameParts me roles ts ps → Clean DuplicateName (listed ps)
  listed_clean d [] [] h = tt
  listed_clean d (t ∷ ts) (p ∷ ps) h =
      clean_both DuplicateName (with_earlier (map lists p.roles)) (listed ps)
      (apart [] p.roles (λ r other has inside same. no_entries (lists other) has) (subst AreDistinct h.0.roles_same d))
      (listed_clean d ts ps h.1)
  listed_clean d [] (p ∷ ps) h = absurd h
  listed_clean d (t ∷ ts) [] h = absurd h

  plain_all : (ts : List Titled) (ps : List WrittenPart) → SameParts me roles ts ps →
      PlainCarried (flat_map (λ (p : WrittenPart). p.carries) ps)
  plain_all [] [] h = tt
  plain_all (t ∷ ts) (p ∷ ps) h = plain_both p.carries (flat_map (λ (q : WrittenPart). q.carries) ps) h.0.carried (plain_all ts ps h.1)
  plain_all [] (p ∷ ps) h = absurd h
  plain_all (t ∷ ts) [] h = absurd h

  -- titles, names, actions, states
  titles_same : (ts : List Titled) (ps : List WrittenPart) → SameParts me roles ts ps → Zip SameTitle ts (map title_of ps)
  titles_same [] [] h = tt
  titles_same (t ∷ ts) (p ∷ ps) h = ((h.0.name, h.0.body), titles_same ts ps h.1)
  titles_same [] (p ∷ ps) h = absurd h
  titles_same (t ∷ ts) [] h = absurd h

  names_same : (ts : List Titled) (ps : List WrittenPart) → SameParts me roles ts ps → map (λ (t : Titled). t.name) ts ≡ map name_in ps
  names_same [] [] h = refl
  names_same (t ∷ ts) (p ∷ ps) h = λ i. h.0.name i ∷ names_same ts ps h.1 i
  names_same [] (p ∷ ps) h = absurd h
  names_same (t ∷ ts) [] h = absurd h

  all_same : (n : ℕ) (ts : List Titled) (ps : List WrittenPart) → SameParts me roles ts ps →
      Zip SameAction (all_actions (λ (t : Titled). me) body_in n ts) (all_actions me_in body_of n ps)
  all_same n [] [] h = tt
  all_same n (t ∷ ts) (p ∷ ps) h =
      let on : acts.next me n t.body ≡ acts.next (me_in p) n p.body = next_same me n t.body p.body h.0.body ∙
      ap (λ m. acts.next m n p.body) h.0.me_same in
      zip-append SameAction (actions me n t.body) (all_actions (λ (u : Titled). me) body_in (acts.next me n t.body) ts)
      (actions (me_in p) n p.body) (all_actions me_in body_of (acts.next (me_in p) n p.body) ps)
      (subst (λ m. Zip SameAction (actions me n t.body) (actions m n p.body)) h.0.me_same (actions_same me n t.body p.body h.0.body))
      (subst (λ k. Zip SameAction (all_actions (λ (u : Titled). me) body_in (acts.next me n t.body) ts) (all_actions me_in body_of k ps)) on
      (all_same (acts.next me n t.body) ts ps h.1))
  all_same n [] (p ∷ ps) h = absurd h
  all_same n (t ∷ ts) [] h = absurd h

  states_same : (ts : List Titled) (ps : List WrittenPart) → SameParts me roles ts ps → length (all_states (λ (t : Titled). me) body_in ts)
      ≡ length (all_states me_in body_of ps)
  states_same [] [] h = refl
  states_same (t ∷ ts) (p ∷ ps) h =
      let one : length (states me t.body) ≡ length (states (me_in p) p.body) =
      count_same me (spots [] t.body) (spots [] p.body) (spots_same [] [] t.body p.body tt h.0.body) ∙
      ap (λ m. length (states m p.body)) h.0.me_same in
      let rest = states_same ts ps h.1 in
      let left = length-append (states me t.body) (all_states (λ (u : Titled). me) body_in ts) in
      let right = length-append (states (me_in p) p.body) (all_states me_in body_of ps) in
      omega (arith, one, rest, left, right)
  states_same [] (p ∷ ps) h = absurd h
  states_same (t ∷ ts) [] h = absurd h

  -- what is told of roles
  told_clean : (first : WrittenPart) → roles ≡ roles_in first → me ≡ first.me.name → (ts : List Titled) (ps : List WrittenPart) →
      SameParts me roles ts ps → Clean (RolesDiffer first) (flat_map told_in ps)
  told_clean first rs m [] [] h = tt
  told_clean first rs m (t ∷ ts) (p ∷ ps) h = clean_both (RolesDiffer first) (told_in p) (flat_map told_in ps)
      (heads_clean, given_clean p.arguments h.0.given) (told_clean first rs m ts ps h.1)
    where
      heads_clean : (c : Culprit) → RolesDiffer first (heads p) c → ⊥
      heads_clean c x = ⊎_elim (λ n. n (sym h.0.roles_same ∙ rs)) (λ n. n (sym h.0.me_same ∙ m)) x.1

      given_clean : (xs : List Arguments) → GivenAll roles xs → Clean (RolesDiffer first) (map gives xs)
      given_clean [] g = tt
      given_clean (a ∷ xs) g = ((λ c x. x.1 (g.0 ∙ rs)), given_clean xs g.1)
  told_clean first rs m [] (p ∷ ps) h = absurd h
  told_clean first rs m (t ∷ ts) [] h = absurd h

  last_clean : (ts : List Titled) (ps : List WrittenPart) → SameParts me roles ts ps → Clean NotLast (all_held (map body_in ts)) →
      Clean NotLast (all_held (map body_of ps))
  last_clean [] [] h g = tt
  last_clean (t ∷ ts) (p ∷ ps) h g =
      clean_both NotLast (held false p.body) (all_held (map body_of ps))
      (clean_zip SameHeld NotLast NotLast last_kept (held false t.body) (held false p.body)
      (held_same false false t.body p.body refl h.0.body) (clean_front NotLast (held false t.body) (all_held (map body_in ts)) g))
      (last_clean ts ps h.1 (clean_behind NotLast (held false t.body) (all_held (map body_in ts)) g))
  last_clean [] (p ∷ ps) h g = absurd h
  last_clean (t ∷ ts) [] h g = absurd h

  -- where others stand behind the first
  starts_clean : (body : Statements) (others : List PartTree) (first : WrittenPart) (ps : List WrittenPart) → AreSame body first.body →
      SameParts me roles (map other others) ps →
      (others ≢ [] → (has_deed body ≡ true) × (first_do (spots [] body) ≡ None)) → Clean StartsWithDo (first_of_several first ps)
  starts_clean body [] first [] e h g = tt
  starts_clean body (o ∷ os) first (p ∷ ps) e h g =
      let zip = spots_same [] [] body first.body tt e in
      let a = g (λ same. let no : ⊥ = cc in no) in
      let deed : has_deed first.body ≡ true = sym (any_same (spots [] body) (spots [] first.body) zip) ∙ a.0 in
      let none : first_do (spots [] first.body) ≡ None = none_first (spots [] body) (spots [] first.body) zip a.1 in (
        λ c x. ⊎_elim (λ l. true≢false (sym deed ∙ l.1)) (λ r. let both : Some r.0 ≡ None = sym r.3 ∙ none in cc) x,
        tt,
      )
  starts_clean body [] first (p ∷ ps) e h g = absurd h
  starts_clean body (o ∷ os) first [] e h g = absurd h

-- ---- the file

module _ (local : LocalTree) (valid : IsValid local) (w : WrittenTree) (no_types : w.types ≡ [])
    (same : SameParts local.me local.roles (titled local) (parts_in w)) where
  names_are : names_in local ≡ map name_in (parts_in w)
  names_are = names_same local.me local.roles (titled local) (parts_in w) same

  entries_clean : Clean DuplicateName (entries w)
  entries_clean =
      clean_both DuplicateName (with_earlier (map declares w.types ++ map lists w.first.roles)) (listed w.others)
      (clean_names w.types w.first.roles no_types (subst AreDistinct same.0.roles_same valid.roles_differ))
      (listed_clean local.me local.roles valid.roles_differ (map other local.others) w.others same.1)

  kept : (At : Spot → Culprit → Type 0) → Follows At → Clean At (all_spots (bodies_in local)) →
      Clean At (all_spots (map body_of (parts_in w)))
  kept At f h = parts_kept local.me local.roles At f (titled local) (parts_in w) same h

  kept_of : (At : Name → Spot → Culprit → Type 0) → Follows (At local.me) → Clean (At local.me) (all_spots (bodies_in local)) →
      Clean (λ (q : WrittenPart × Spot). At (me_in q.0) q.1) (spots_of body_of (parts_in w))
  kept_of At f h = own_kept local.me local.roles At f (titled local) (parts_in w) same h

  few_states : Clean (TooManyStates w.file) (all_states me_in body_of (parts_in w) ∷ [])
  few_states = (
    λ c x. valid.few_states.0 (culprit (start_of local.file) [])
        (refl, subst (λ n. 1000 < n) (sym (states_same local.me local.roles (titled local) (parts_in w) same)) x.1),
    tt,
  )

  pub faultless : IsFault w None
  faultless =
      next (clean-judged _ entries_clean)
      (next (clean-judged _ (mentioned local.me local.roles valid.me_listed (titled local) (parts_in w) same valid.roles_listed))
      (next (clean-judged _ (kept_of says.PeerIsSelf (self_kept local.me) valid.peers_apart))
      (next (clean-judged _ (clean_types w.types (all_carries w) no_types
      (plain_all local.me local.roles (titled local) (parts_in w) same)))
      (next (clean-judged _ (clean_counts (all_carries w) (plain_all local.me local.roles (titled local) (parts_in w) same)))
      (next (clean-judged _ (kept says.UnknownRec rec_kept valid.recs_known))
      (next (clean-judged _ (kept says.DuplicateRec twice_kept valid.recs_differ))
      (next (clean-judged _ (guards_kept (titled local) (map title_of (parts_in w)) (titles_same local.me local.roles (titled local)
      (parts_in w) same) valid.guarded))
      (next (clean-judged _ (kept says.Unreachable reach_kept valid.reachable))
      (next (clean-judged _ (kept says.BranchStart start_kept valid.starts))
      (next (clean-judged _ (kept_of says.MixedChoice (mixed_kept local.me) valid.uniform))
      (next (clean-judged _ (kept_of says.SameLabel (label_kept local.me) valid.labels_differ))
      (next (clean-judged _ (kept_of says.ReservedLabel (free_kept local.me) valid.labels_free))
      (next (clean-judged _ (clash_kept [] [] _ _ tt (all_same local.me local.roles 1 (titled local) (parts_in w) same) valid.one_action))
      (next (clean-judged _ few_states)
      (next (clean-judged _ (subst (λ ns. Clean (UnknownProtocol ns) (all_spots (map body_of (parts_in w)))) names_are
      (kept (UnknownProtocol (names_in local)) (protocol_kept (names_in local)) valid.protocols_known)))
      (next (clean-judged _ (names_apart [] (parts_in w) (λ p q has inside e. no_part q has)
      (subst AreDistinct names_are valid.protocols_differ)))
      (next (clean-judged _ (told_clean local.me local.roles w.first same.0.roles_same same.0.me_same (titled local) (parts_in w) same))
      (next (clean-judged _ (last_clean local.me local.roles (titled local) (parts_in w) same valid.last))
      (next (clean-judged _ (starts_clean local.me local.roles local.body local.others w.first w.others same.0.body same.1
      valid.acts_first)) none)))))))))))))))))))

pub printed_reads_back : (file : ℕ) (local : LocalTree) → IsValid local → length (layout local) ≤ 1048576 →
    (t : LocalTree) × Outcome file (layout local) (Protocol t) × IsSame local t
printed_reads_back file local valid size =
    let h = printed file local valid.written valid.me_listed in (
      local_of h.written,
      found record {
        same_file = h.same_file;
        tokens = h.tokens;
        separates = record { size = size; cut = h.cut };
        supported = h.supported;
        spelled = h.spelled;
      } (faultless local valid h.written h.types (h.first, h.others)),
      is_same h,
    )
