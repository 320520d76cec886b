-- What one walk over a protocol finds, where it is known which `do` is the first that is on a cycle.
use Rattle.std.proofs.Common.{◌≡◌, Bool, true, false, ◌&&◌, if◌then◌else◌, List, [], ◌∷◌, ◌++◌, Option, Some, None, Contains, IsTrue, refl}
use Rattle.std.proofs.Common.{sym, ap, subst, ◌∙◌, true≢false, ⊎_elim}
use Rattle.std.specs.Option.{option_or}
use Rattle.std.proofs.lemmas.List.Elements.{Contains-append_cases}
use Rattle.std.proofs.lemmas.Slice.Eq.{bytes_eq-Decides}
use Rattle.mg_text.specs.Call.{Name}
use Rattle.mg_text.specs.declared.place.Place.{Place}
use Rattle.mg_read.specs.Culprit.{Culprit, culprit}
use Rattle.mg_read.specs.First.{Judged, clean, here, later}
use Rattle.mg_read.proofs.Judging.{judged-append, judged-found}
use Rattle.scr_tree.specs.Tree.{Statements, Nothing, Says, Choice, Rec, Continue, Do, Branches, NoBranch, Branch}
use Rattle.scr_tree.specs.Spots.{Past, Opens, Enters, Way, Spot, spot, spots, branch_spots}
use Rattle.scr_tree.specs.Control.{passes, some_passes, AtOnce, starting, passing, into_rec, into_branch}
use Rattle.scr_tree.specs.Conditions as says
use Rattle.scr_judge.specs.inner.Finding.{kept, unguarded, unguarded_in}
use Rattle.scr_judge.specs.inner.Names.{is_among}
use Rattle.scr_judge.specs.inner.Own as own
use Rattle.scr_judge.specs.inner.Own.{FirstIn}
use Rattle.scr_judge.specs.inner.Round.{gone, gone_in, is_goal, kept_goal, FoundBad}
use Rattle.scr_judge.proofs.Leaving.{none_gone}
use Rattle.scr_judge.proofs.Members.{Contains-nil, Contains-cons_cases, Contains-first, Contains-later}
use Rattle.scr_judge.proofs.Quiet.{AreOpen, past_open, body_open, branch_open, start_open, and_true}

-- ---- control comes at once

-- control can come here from the opening of the protocol with no message, exactly where the walk says so
pub record IsOnce (at_once : Bool) (way : Way) : Type 0 where
  pub to : at_once ≡ true → AtOnce way
  pub from : AtOnce way → at_once ≡ true

pub past_at : (w : Way) → AtOnce w → (s : Statements) (way : Way) → w ≡ Past s ∷ way → IsTrue (passes s) × AtOnce way
past_at w starting s way e = let no : ⊥ = cc in absurd no
past_at w (passing {s = t} {way = v} p a) s way e =
    let same : t ≡ s = cc in let rest : v ≡ way = cc in (subst (λ x. IsTrue (passes x)) same p, subst AtOnce rest a)
past_at w (into_rec a) s way e = let no : ⊥ = cc in absurd no
past_at w (into_branch a) s way e = let no : ⊥ = cc in absurd no

pub opens_at : (w : Way) → AtOnce w → (name : Name) (way : Way) → w ≡ Opens name ∷ way → AtOnce way
opens_at w starting name way e = let no : ⊥ = cc in absurd no
opens_at w (passing p a) name way e = let no : ⊥ = cc in absurd no
opens_at w (into_rec {way = v} a) name way e = let rest : v ≡ way = cc in subst AtOnce rest a
opens_at w (into_branch a) name way e = let no : ⊥ = cc in absurd no

pub enters_at : (w : Way) → AtOnce w → (at : Name) (earlier : List Statements) (way : Way) → w ≡ Enters at earlier ∷ way → AtOnce way
enters_at w starting at earlier way e = let no : ⊥ = cc in absurd no
enters_at w (passing p a) at earlier way e = let no : ⊥ = cc in absurd no
enters_at w (into_rec a) at earlier way e = let no : ⊥ = cc in absurd no
enters_at w (into_branch {way = v} a) at earlier way e = let rest : v ≡ way = cc in subst AtOnce rest a

pub once_start : IsOnce true []
once_start = record { to = λ e. starting; from = λ a. refl }

pub once_past : {at_once : Bool} {way : Way} (s : Statements) (b : Bool) → passes s ≡ b → IsOnce at_once way →
    IsOnce (b && at_once) (Past s ∷ way)
once_past {way = way} s true e h = record { to = λ t. passing e (h.to t); from = λ a. h.from (past_at _ a s way refl).1 }
once_past {way = way} s false e h = record {
  to = λ t. absurd (true≢false (sym t));
  from = λ a. absurd (true≢false (sym (past_at _ a s way refl).0 ∙ e));
}

pub once_opens : {at_once : Bool} {way : Way} (name : Name) → IsOnce at_once way → IsOnce at_once (Opens name ∷ way)
once_opens {way = way} name h = record { to = λ t. into_rec (h.to t); from = λ a. h.from (opens_at _ a name way refl) }

pub once_enters : {at_once : Bool} {way : Way} (at : Name) (earlier : List Statements) → IsOnce at_once way →
    IsOnce at_once (Enters at earlier ∷ way)
once_enters {way = way} at earlier h = record { to = λ t. into_branch (h.to t); from = λ a. h.from (enters_at _ a at earlier way refl) }

-- ---- the name that is sought

goal_is : (goal : Option Name) (name : Name) → is_goal goal name ≡ true → goal ≡ Some name
goal_is None name e = absurd (true≢false (sym e))
goal_is (Some g) name e = ap Some (sym ((bytes_eq-Decides name g).0 e))

is_the_goal : (goal : Option Name) (name : Name) → goal ≡ Some name → is_goal goal name ≡ true
is_the_goal goal name e = ap (λ g. is_goal g name) e ∙ (bytes_eq-Decides name name).1 refl

nowhere : {xs : List Name} (name : Name) → xs ≡ [] → Contains xs name → ⊥
nowhere name e h = Contains-nil name (subst (λ l. Contains l name) e h)

none_parts : (r s : Option Culprit) → option_or r s ≡ None → (r ≡ None) × (s ≡ None)
none_parts None s e = (refl, e)
none_parts (Some c) s e = let no : ⊥ = cc in absurd no

-- where the name that is sought is met, the walk finds a culprit
module _ (name : Name) where
  met_do : (b : Bool) (goal : Option Name) (p : Place) (other : Name) (rest : Statements) (r : Option Culprit) → goal ≡ Some name →
      Contains ((if b then other ∷ [] else []) ++ gone false rest) name →
      (if is_goal goal other then Some (culprit p other) else r) ≡ None → ⊥
  met_do true goal p other rest r g h e =
      ⊎_elim (λ same. let hits : is_goal goal other ≡ true = is_the_goal goal other (g ∙ ap Some (sym same)) in
      let no : Some (culprit p other) ≡ None = sym (ap (λ t. if t then Some (culprit p other) else r) hits) ∙
      e in let never : ⊥ = cc in never)
      (λ none. nowhere name (none_gone rest) none) (Contains-cons_cases (gone false rest) other name h)
  met_do false goal p other rest r g h e = nowhere name (none_gone rest) h

  met_behind : (q : Bool) (names : List Name) (goal : Option Name) (b : Bool) (rest : Statements) → Contains (gone (q && b) rest) name →
      unguarded names (kept_goal q goal) rest ≡ None →
      (Contains (gone b rest) name → unguarded names goal rest ≡ None → ⊥) → ⊥
  met_behind true names goal b rest h e go = go h e
  met_behind false names goal b rest h e go = nowhere name (none_gone rest) h

  mutual
    met : (names : List Name) (goal : Option Name) (b : Bool) (ss : Statements) → goal ≡ Some name → Contains (gone b ss) name →
        unguarded names goal ss ≡ None → ⊥
    met names goal b Nothing g h e = Contains-nil name h
    met names goal b (Says m rest) g h e = nowhere name (none_gone rest) h
    met names goal b (Choice p at bs rest) g h e =
        let none = none_parts (unguarded_in names goal bs) (unguarded (kept (some_passes bs) names) (kept_goal (some_passes bs) goal) rest)
        e in
        ⊎_elim (λ one. met_in names goal b bs g one none.0) (λ more. met_behind (some_passes bs) (kept (some_passes bs) names) goal b rest
        more none.1 (λ c e. met (kept (some_passes bs) names) goal b rest g c e))
        (Contains-append_cases (gone_in b bs) (gone (some_passes bs && b) rest) name h)
    met names goal b (Rec p label body rest) g h e =
        let none = none_parts (unguarded (label ∷ names) goal body)
        (unguarded (kept (passes body) names) (kept_goal (passes body) goal) rest) e in
        ⊎_elim (λ one. met (label ∷ names) goal b body g one none.0)
        (λ more. met_behind (passes body) (kept (passes body) names) goal b rest more none.1
        (λ c e. met (kept (passes body) names) goal b rest g c e))
        (Contains-append_cases (gone b body) (gone (passes body && b) rest) name h)
    met names goal b (Continue p label rest) g h e = nowhere name (none_gone rest) h
    met names goal b (Do p other rest) g h e = met_do b goal p other rest (unguarded [] None rest) g h e

    met_in : (names : List Name) (goal : Option Name) (b : Bool) (bs : Branches) → goal ≡ Some name → Contains (gone_in b bs) name →
        unguarded_in names goal bs ≡ None → ⊥
    met_in names goal b NoBranch g h e = Contains-nil name h
    met_in names goal b (Branch s more) g h e =
        let none = none_parts (unguarded names goal s) (unguarded_in names goal more) e in
        ⊎_elim (λ one. met names goal b s g one none.0) (λ others. met_in names goal b more g others none.1)
        (Contains-append_cases (gone b s) (gone_in b more) name h)

-- the second part is judged only where nothing was found in the first
judged_or : {X C : Type 0} {At : X → C → Type 0} {xs ys : List X} (r s : Option C) → Judged At xs r → (r ≡ None → Judged At ys s) →
    Judged At (xs ++ ys) (option_or r s)
judged_or None s p q = judged-append p (q refl)
judged_or {ys = ys} (Some c) s p q = judged-found ys p

module _ (Bad : Name → Type 0) where
  -- a `continue` with no message from its rec, or a `do` of a bad name with none from the opening of the protocol
  abbrev pub At : Spot → Culprit → Type 0
  At (spot way Nothing) c = ⊥
  At (spot way (Says m rest)) c = ⊥
  At (spot way (Choice place at branches rest)) c = ⊥
  At (spot way (Rec place name body rest)) c = ⊥
  At (spot way (Continue place name rest)) c = says.Unguarded (spot way (Continue place name rest)) c
  At (spot way (Do place name rest)) c = (c ≡ culprit place name) × AtOnce way × Bad name

  -- no name before the one that is sought is bad
  pub data UpTo (goal : Option Name) : List Name → Type 0 where
    ended : UpTo goal []
    hit : {name : Name} {names : List Name} → goal ≡ Some name → UpTo goal (name ∷ names)
    missed : {name : Name} {names : List Name} → (Bad name → ⊥) → UpTo goal names → UpTo goal (name ∷ names)

  first_up : {goal : Option Name} {x : Name} {xs : List Name} → UpTo goal (x ∷ xs) → (goal ≡ Some x → ⊥) → (Bad x → ⊥) × UpTo goal xs
  first_up {goal} {x} {xs} u other = go (x ∷ xs) u refl
    where
      go : (zs : List Name) → UpTo goal zs → zs ≡ x ∷ xs → (Bad x → ⊥) × UpTo goal xs
      go zs ended e = let no : ⊥ = cc in absurd no
      go zs (hit {name = name} g) e = let same : name ≡ x = cc in absurd (other (g ∙ ap Some same))
      go zs (missed {name = name} {names = names} n more) e =
          let same : name ≡ x = cc in let rest : names ≡ xs = cc in (λ b. n (subst Bad (sym same) b), subst (UpTo goal) rest more)

  up_cons : {goal : Option Name} (x : Name) (xs ys : List Name) → UpTo goal (x ∷ (xs ++ ys)) → (UpTo goal (xs ++ ys) → UpTo goal xs) →
      UpTo goal (x ∷ xs)
  up_cons {goal} x xs ys u more = go (x ∷ (xs ++ ys)) u refl
    where
      go : (zs : List Name) → UpTo goal zs → zs ≡ x ∷ (xs ++ ys) → UpTo goal (x ∷ xs)
      go zs ended e = let no : ⊥ = cc in absurd no
      go zs (hit {name = name} g) e = let same : name ≡ x = cc in hit (g ∙ ap Some same)
      go zs (missed {name = name} {names = names} n rest) e =
          let same : name ≡ x = cc in let are : names ≡ xs ++ ys = cc in missed (λ b. n (subst Bad (sym same) b))
          (more (subst (UpTo goal) are rest))

  up_front : {goal : Option Name} (xs ys : List Name) → UpTo goal (xs ++ ys) → UpTo goal xs
  up_front [] ys u = ended
  up_front (x ∷ xs) ys u = up_cons x xs ys u (up_front xs ys)

  -- behind names none of which is sought
  up_behind : {goal : Option Name} (xs ys : List Name) → ((name : Name) → goal ≡ Some name → Contains xs name → ⊥) → UpTo goal (xs ++ ys) →
      UpTo goal ys
  up_behind [] ys far u = u
  up_behind (x ∷ xs) ys far u = up_behind xs ys (λ z g c. far z g (Contains-later xs x z c))
      (first_up u (λ g. far x g (Contains-first xs x))).1

  -- what is known of the name that is sought: it is bad, the first one, and none where control does not come at once
  pub record Known (at_once : Bool) (goal : Option Name) (names : List Name) : Type 0 where
    pub bad : (name : Name) → goal ≡ Some name → Bad name
    pub never : at_once ≡ false → goal ≡ None
    pub up : UpTo goal names

  known_none : (rest : Statements) → Known false None (gone false rest)
  known_none rest = record {
    bad = λ name e. let no : ⊥ = cc in absurd no;
    never = λ e. refl;
    up =
        subst (UpTo None) (sym (none_gone rest)) ended;
  }

  known_front : {b : Bool} {goal : Option Name} (xs ys : List Name) → Known b goal (xs ++ ys) → Known b goal xs
  known_front xs ys k = record { bad = k.bad; never = k.never; up = up_front xs ys k.up }

  known_behind : {b : Bool} {goal : Option Name} (q : Bool) (xs : List Name) (rest : Statements) → Known b goal (xs ++ gone (q && b) rest) →
      ((name : Name) → goal ≡ Some name → Contains xs name → ⊥) →
      Known (q && b) (kept_goal q goal) (gone (q && b) rest)
  known_behind {b} {goal} true xs rest k far = record { bad = k.bad; never = k.never; up = up_behind xs (gone b rest) far k.up }
  known_behind false xs rest k far = known_none rest

  found_continue : (t : Bool) (names : List Name) (way : Way) (p : Place) (name : Name) (rest : Statements) (more : List Spot)
      (r : Option Culprit) → AreOpen names way → is_among name names ≡ t →
      Judged At more r → Judged At (spot way (Continue p name rest) ∷ more) (if t then Some (culprit p name) else r)
  found_continue true names way p name rest more r h e j = here (refl, (h.each name).0 e)
  found_continue false names way p name rest more r h e j = later (λ c x. true≢false (sym ((h.each name).1 x.1) ∙ e)) j

  found_do : (t b : Bool) (goal : Option Name) (way : Way) (p : Place) (name : Name) (rest : Statements) (more : List Spot)
      (r : Option Culprit) → is_goal goal name ≡ t → IsOnce b way →
      Known b goal ((if b then name ∷ [] else []) ++ gone false rest) → Judged At more r → Judged At (spot way (Do p name rest) ∷ more)
      (if t then Some (culprit p name) else r)
  found_do true true goal way p name rest more r e o k j = here (refl, o.to refl, k.bad name (goal_is goal name e))
  found_do true false goal way p name rest more r e o k j =
      let both : Some name ≡ None = sym (goal_is goal name e) ∙ k.never refl in let no : ⊥ = cc in absurd no
  found_do false true goal way p name rest more r e o k j =
      later (λ c x. (first_up k.up (λ g. true≢false (sym (is_the_goal goal name g) ∙ e))).0 x.2) j
  found_do false false goal way p name rest more r e o k j = later (λ c x. true≢false (sym (o.from x.1))) j

  mutual
    sought_exact : (names : List Name) (goal : Option Name) (b : Bool) (way : Way) (ss : Statements) → AreOpen names way → IsOnce b way →
        Known b goal (gone b ss) →
        Judged At (spots way ss) (unguarded names goal ss)
    sought_exact names goal b way Nothing h o k = clean
    sought_exact names goal b way (Says m rest) h o k =
        later (λ c x. x) (sought_exact [] None false _ rest (past_open h false (Says m Nothing) refl)
        (once_past (Says m Nothing) false refl o) (known_none rest))
    sought_exact names goal b way (Choice p at bs rest) h o k =
        later (λ c x. x) (judged_or (unguarded_in names goal bs) (unguarded (kept (some_passes bs) names) (kept_goal (some_passes bs) goal)
        rest)
        (sought_exact_in names goal b way at [] bs h o (known_front (gone_in b bs) (gone (some_passes bs && b) rest) k))
        (λ none. sought_exact (kept (some_passes bs) names) (kept_goal (some_passes bs) goal) (some_passes bs && b) _ rest
        (past_open h (some_passes bs) (Choice p at bs Nothing) (and_true (some_passes bs)))
        (once_past (Choice p at bs Nothing) (some_passes bs) (and_true (some_passes bs)) o)
        (known_behind (some_passes bs) (gone_in b bs) rest k (λ name g c. met_in name names goal b bs g c none))))
    sought_exact names goal b way (Rec p label body rest) h o k =
        later (λ c x. x) (judged_or (unguarded (label ∷ names) goal body)
        (unguarded (kept (passes body) names) (kept_goal (passes body) goal) rest)
        (sought_exact (label ∷ names) goal b _ body (body_open h label) (once_opens label o)
        (known_front (gone b body) (gone (passes body && b) rest) k))
        (λ none. sought_exact (kept (passes body) names) (kept_goal (passes body) goal) (passes body && b) _ rest
        (past_open h (passes body) (Rec p label body Nothing) (and_true (passes body))) (once_past (Rec p label body Nothing) (passes body)
        (and_true (passes body)) o)
        (known_behind (passes body) (gone b body) rest k (λ name g c. met name (label ∷ names) goal b body g c none))))
    sought_exact names goal b way (Continue p label rest) h o k =
        found_continue (is_among label names) names way p label rest _ _ h refl
        (sought_exact [] None false _ rest (past_open h false (Continue p label Nothing) refl)
        (once_past (Continue p label Nothing) false refl o) (known_none rest))
    sought_exact names goal b way (Do p name rest) h o k =
        found_do (is_goal goal name) b goal way p name rest _ _ refl o k
        (sought_exact [] None false _ rest (past_open h false (Do p name Nothing) refl) (once_past (Do p name Nothing) false refl o)
        (known_none rest))

    sought_exact_in : (names : List Name) (goal : Option Name) (b : Bool) (way : Way) (at : Name) (earlier : List Statements)
        (bs : Branches) → AreOpen names way → IsOnce b way →
        Known b goal (gone_in b bs) → Judged At (branch_spots way at earlier bs) (unguarded_in names goal bs)
    sought_exact_in names goal b way at earlier NoBranch h o k = clean
    sought_exact_in names goal b way at earlier (Branch s more) h o k =
        judged_or (unguarded names goal s) (unguarded_in names goal more)
        (sought_exact names goal b _ s (branch_open h at earlier) (once_enters at earlier o) (known_front (gone b s) (gone_in b more) k))
        (λ none. sought_exact_in names goal b way at (s ∷ earlier) more h o
        (record {
          bad = k.bad;
          never = k.never;
          up = up_behind (gone b s) (gone_in b more) (λ name g c. met name names goal b s g c none)
              k.up;
        }))

  -- ---- the first bad name of a list

  known_first : {names : List Name} {goal : Option Name} → FirstIn (FoundBad Bad) names goal → ((name : Name) → goal ≡ Some name → Bad name)
      × UpTo goal names
  known_first own.none = (λ name e. let no : ⊥ = cc in absurd no, ended)
  known_first (own.here {p = p} {c = c} a) = (λ name e. let same : c ≡ name = cc in subst Bad (sym a.0 ∙ same) a.1, hit (ap Some a.0))
  known_first (own.later a more) = let r = known_first more in (r.0, missed a r.1)

  pub first_sought : (ss : Statements) (goal : Option Name) (r : Option Culprit) → FirstIn (FoundBad Bad) (gone true ss) goal →
      r ≡ unguarded [] goal ss → Judged At (spots [] ss) r
  first_sought ss goal r f e =
      let k = known_first f in
      subst (Judged At (spots [] ss)) (sym e)
      (sought_exact [] goal true [] ss start_open once_start (record { bad = k.0; never = λ t. absurd (true≢false t); up = k.1 }))
