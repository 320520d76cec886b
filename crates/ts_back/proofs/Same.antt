-- Files that are the same, places aside: they mean the same, and one has no fault where the other has none.
use Rattle.std.proofs.Common.{◌≡◌, zero, suc, List, [], ◌∷◌, ◌++◌, map, Bool, true, false, Option, None, inl, inr, Contains, refl, sym, ap}
use Rattle.std.proofs.Common.{◌∙◌, subst, arith}
use Rattle.std.specs.List.{flat_map}
use Rattle.std.proofs.lemmas.List.{map-append}
use Rattle.std.proofs.lemmas.List.Elements.{Contains-append_left, Contains-push, Contains-push_cases}
use Rattle.mg_text.specs.Call.{Name}
use Rattle.mg_text.specs.declared.place.Place.{Place}
use Rattle.mg_read.specs.Culprit.{Culprit}
use Rattle.mg_read.specs.First.{FirstOf, none, this, next, Clean, behind, with_earlier}
use Rattle.mg_read.proofs.Judging.{judged-clean, clean-judged}
use Rattle.ts_tree.specs.declared.parts.Branch.{Branch}
use Rattle.ts_tree.specs.Typestate.{One, ByAnswer, State, Typestate}
use Rattle.ts_parse.specs.declared.written.Naming.{Naming}
use Rattle.ts_parse.specs.declared.written.WrittenBranch.{WrittenBranch}
use Rattle.ts_parse.specs.Written.{WTarget, to_one, by_label, WMethod, WEntry, offer, drop_end, WState, WFile, methods_in, has_drop}
use Rattle.ts_read.specs.Conditions.{state_names, methods_of, branches_of, labels_of, leads_to, targets_of, texts, blamed, IsRepeat}
use Rattle.ts_read.specs.Conditions.{SameEntry, entry_blamed, IsTwice, IsUnknown, SameSignature, HasOther, IsNamedEnd, IsFault}
use Rattle.ts_read.specs.Meaning.{place_named, branch_meant, target_meant, method_meant, state_meant, typestate_of}

-- two lists, element by element
abbrev pub Zip : {X Y : Type 0} → (X → Y → Type 0) → List X → List Y → Type 0
Zip R [] [] = Unit {0}
Zip R (x ∷ xs) (y ∷ ys) = R x y × Zip R xs ys
Zip R _ _ = ⊥

abbrev pub SameNaming : Naming → Naming → Type 0
SameNaming n m = n.text ≡ m.text

abbrev pub SameBranch : WrittenBranch → WrittenBranch → Type 0
SameBranch b d = SameNaming b.label d.label × SameNaming b.to d.to

abbrev pub SameTarget : WTarget → WTarget → Type 0
SameTarget (to_one n) (to_one m) = SameNaming n m
SameTarget (by_label bs) (by_label ds) = Zip SameBranch bs ds
SameTarget _ _ = ⊥

pub record SameMethod (m n : WMethod) : Type 0 where
  pub result : m.result ≡ n.result
  pub name : SameNaming m.name n.name
  pub params : m.params ≡ n.params
  pub target : SameTarget m.target n.target

abbrev pub LikeEntry : WEntry → WEntry → Type 0
LikeEntry (offer m) (offer n) = SameMethod m n
LikeEntry (drop_end p) (drop_end q) = Unit {0}
LikeEntry _ _ = ⊥

-- entries in the order in which they are laid out: the methods, and then `drop: end`, wherever it stood
abbrev pub drop_last : Place → Bool → List WEntry
drop_last place true = drop_end place ∷ []
drop_last place false = []

abbrev pub ordered : WState → List WEntry
ordered s = map offer (methods_in s.entries) ++ drop_last s.name.place (has_drop s.entries)

-- the second has the entries of the first in the order in which they are laid out
pub record SameState (s t : WState) : Type 0 where
  pub name : SameNaming s.name t.name
  pub entries : Zip LikeEntry (ordered s) t.entries

-- ---- lists

module _ {X Y : Type 0} (R : X → Y → Type 0) where
  zip_append : (xs us : List X) (ys vs : List Y) → Zip R xs ys → Zip R us vs → Zip R (xs ++ us) (ys ++ vs)
  zip_append [] us [] vs h g = g
  zip_append (x ∷ xs) us (y ∷ ys) vs h g = (h.0, zip_append xs us ys vs h.1 g)
  zip_append [] us (y ∷ ys) vs h g = absurd h
  zip_append (x ∷ xs) us [] vs h g = absurd h

  zip_contains : (xs : List X) (ys : List Y) (y : Y) → Zip R xs ys → Contains ys y → (x : X) × Contains xs x × R x y
  zip_contains [] [] w h (k, lt, e) = absurd (omega arith)
  zip_contains (x ∷ xs) (y ∷ ys) w h (zero, lt, e) = (x, (0, omega arith, refl), subst (R x) e h.0)
  zip_contains (x ∷ xs) (y ∷ ys) w h (suc k, lt, e) =
      let more = zip_contains xs ys w h.1 (k, omega arith, e) in
      let there = more.1 in
      (more.0, (suc there.0, omega (arith, there.1), there.2), more.2)
  zip_contains [] (y ∷ ys) w h c = absurd h
  zip_contains (x ∷ xs) [] w h c = absurd h

  abbrev pub Pair : List X × X → List Y × Y → Type 0
  Pair x y = Zip R x.0 y.0 × R x.1 y.1

  zip_behind : (seen : List X) (met : List Y) (xs : List X) (ys : List Y) → Zip R seen met → Zip R xs ys
      → Zip Pair (behind seen xs) (behind met ys)
  zip_behind seen met [] [] h g = tt
  zip_behind seen met (x ∷ xs) (y ∷ ys) h g =
      ((h, g.0), zip_behind (seen ++ x ∷ []) (met ++ y ∷ []) xs ys (zip_append seen (x ∷ []) met (y ∷ []) h (g.0, tt)) g.1)
  zip_behind seen met [] (y ∷ ys) h g = absurd g
  zip_behind seen met (x ∷ xs) [] h g = absurd g

  -- a condition that is at fault at the same elements is clean where it is clean
  clean_zip : (At : X → Culprit → Type 0) (By : Y → Culprit → Type 0)
      → ((x : X) (y : Y) → R x y → (c : Culprit) → By y c → (d : Culprit) × At x d)
      → (xs : List X) (ys : List Y) → Zip R xs ys → Clean At xs → Clean By ys
  clean_zip At By f [] [] h g = tt
  clean_zip At By f (x ∷ xs) (y ∷ ys) h g = ((λ c b. let d = f x y h.0 c b in g.0 d.0 d.1), clean_zip At By f xs ys h.1 g.1)
  clean_zip At By f [] (y ∷ ys) h g = absurd h
  clean_zip At By f (x ∷ xs) [] h g = absurd h

  zip_eq : {Z : Type 0} (f : X → Z) (g : Y → Z) → ((x : X) (y : Y) → R x y → f x ≡ g y) → (xs : List X) (ys : List Y) → Zip R xs ys
      → map f xs ≡ map g ys
  zip_eq f g h [] [] z = refl
  zip_eq f g h (x ∷ xs) (y ∷ ys) z = λ i. h x y z.0 i ∷ zip_eq f g h xs ys z.1 i
  zip_eq f g h [] (y ∷ ys) z = absurd z
  zip_eq f g h (x ∷ xs) [] z = absurd z

module _ {X Y Z W : Type 0} (R : X → Y → Type 0) (S : Z → W → Type 0) where
  zip_map : (f : X → Z) (g : Y → W) → ((x : X) (y : Y) → R x y → S (f x) (g y)) → (xs : List X) (ys : List Y) → Zip R xs ys
      → Zip S (map f xs) (map g ys)
  zip_map f g h [] [] z = tt
  zip_map f g h (x ∷ xs) (y ∷ ys) z = (h x y z.0, zip_map f g h xs ys z.1)
  zip_map f g h [] (y ∷ ys) z = absurd z
  zip_map f g h (x ∷ xs) [] z = absurd z

  zip_flat : (f : X → List Z) (g : Y → List W) → ((x : X) (y : Y) → R x y → Zip S (f x) (g y)) → (xs : List X) (ys : List Y) → Zip R xs ys
      → Zip S (flat_map f xs) (flat_map g ys)
  zip_flat f g h [] [] z = tt
  zip_flat f g h (x ∷ xs) (y ∷ ys) z = zip_append S (f x) (flat_map f xs) (g y) (flat_map g ys) (h x y z.0) (zip_flat f g h xs ys z.1)
  zip_flat f g h [] (y ∷ ys) z = absurd z
  zip_flat f g h (x ∷ xs) [] z = absurd z

-- ---- names

texts_same : (ns ms : List Naming) → Zip SameNaming ns ms → texts ns ≡ texts ms
texts_same = zip_eq SameNaming (λ n. n.text) (λ n. n.text) (λ x y r. r)

leads_same : (s t : WTarget) → SameTarget s t → Zip SameNaming (leads_to s) (leads_to t)
leads_same (to_one n) (to_one m) h = (h, tt)
leads_same (by_label bs) (by_label ds) h = zip_map SameBranch SameNaming (λ b. b.to) (λ b. b.to) (λ x y r. r.1) bs ds h
leads_same (to_one n) (by_label ds) h = absurd h
leads_same (by_label bs) (to_one m) h = absurd h

branches_same : (s t : WTarget) → SameTarget s t → Zip SameBranch (branches_of s) (branches_of t)
branches_same (to_one n) (to_one m) h = tt
branches_same (by_label bs) (by_label ds) h = h
branches_same (to_one n) (by_label ds) h = absurd h
branches_same (by_label bs) (to_one m) h = absurd h

labels_same : (m n : WMethod) → SameMethod m n → Zip SameNaming (labels_of m) (labels_of n)
labels_same m n h = zip_map SameBranch SameNaming (λ b. b.label) (λ b. b.label) (λ x y r. r.0) (branches_of m.target) (branches_of n.target)
    (branches_same m.target n.target h.target)

-- ---- who breaks a condition

repeat_kept : (x y : List Naming × Naming) → Pair SameNaming x y → (c : Culprit) → IsRepeat y c → (d : Culprit) × IsRepeat x d
repeat_kept x y r c h = (
  blamed x.1,
  (
    refl,
    subst (Contains (texts x.0)) (sym r.1)
        (subst (λ (ts : List Name). Contains ts y.1.text) (sym (texts_same x.0 y.0 r.0)) h.1),
  ),
)

unknown_kept : (states known : List Naming) → texts states ≡ texts known → (n m : Naming) → SameNaming n m → (c : Culprit)
    → IsUnknown known m c → (d : Culprit) × IsUnknown states n d
unknown_kept states known same n m r c h = (
  blamed n,
  (
    refl,
    (λ e. h.1 (sym r ∙ e)),
    (λ k. h.2 (subst (Contains (texts known)) r (subst (λ (ts : List Name). Contains ts n.text) same k))),
  ),
)

other_kept : (x y : List WMethod × WMethod) → Pair SameMethod x y → (c : Culprit) → HasOther y c → (d : Culprit) × HasOther x d
other_kept x y r c h =
    let k = zip_contains SameMethod x.0 y.0 h.1 r.0 h.2 in
    let was = k.2 in
    let now = r.1 in
    let differs : SameSignature k.0 x.1 → ⊥ = λ same. h.4 (sym was.result ∙ same.0 ∙ now.result, sym was.params ∙ same.1 ∙ now.params) in
    (blamed x.1.name, (refl, k.0, k.1, was.name ∙ h.3 ∙ sym now.name, differs))

end_kept : (n m : Naming) → SameNaming n m → (c : Culprit) → IsNamedEnd m c → (d : Culprit) × IsNamedEnd n d
end_kept n m r c h = (blamed n, (refl, r ∙ h.1))

-- ---- entries

like_methods : (es fs : List WEntry) → Zip LikeEntry es fs → Zip SameMethod (methods_in es) (methods_in fs)
like_methods [] [] z = tt
like_methods (offer m ∷ es) (offer n ∷ fs) z = (z.0, like_methods es fs z.1)
like_methods (drop_end p ∷ es) (drop_end q ∷ fs) z = like_methods es fs z.1
like_methods (offer m ∷ es) (drop_end q ∷ fs) z = absurd z.0
like_methods (drop_end p ∷ es) (offer n ∷ fs) z = absurd z.0
like_methods [] (f ∷ fs) z = absurd z
like_methods (e ∷ es) [] z = absurd z

like_drop : (es fs : List WEntry) → Zip LikeEntry es fs → has_drop es ≡ has_drop fs
like_drop [] [] z = refl
like_drop (offer m ∷ es) (offer n ∷ fs) z = like_drop es fs z.1
like_drop (drop_end p ∷ es) (drop_end q ∷ fs) z = refl
like_drop (offer m ∷ es) (drop_end q ∷ fs) z = absurd z.0
like_drop (drop_end p ∷ es) (offer n ∷ fs) z = absurd z.0
like_drop [] (f ∷ fs) z = absurd z
like_drop (e ∷ es) [] z = absurd z

ordered_methods : (ms : List WMethod) (p : Place) (b : Bool) → methods_in (map offer ms ++ drop_last p b) ≡ ms
ordered_methods [] p true = refl
ordered_methods [] p false = refl
ordered_methods (m ∷ ms) p b = ap (λ (ns : List WMethod). m ∷ ns) (ordered_methods ms p b)

ordered_drop : (ms : List WMethod) (p : Place) (b : Bool) → has_drop (map offer ms ++ drop_last p b) ≡ b
ordered_drop [] p true = refl
ordered_drop [] p false = refl
ordered_drop (m ∷ ms) p b = ordered_drop ms p b

same_methods : (s t : WState) → SameState s t → Zip SameMethod (methods_in s.entries) (methods_in t.entries)
same_methods s t r =
    subst (λ (ms : List WMethod). Zip SameMethod ms (methods_in t.entries)) (ordered_methods (methods_in s.entries) s.name.place
    (has_drop s.entries))
    (like_methods (ordered s) t.entries r.entries)

same_drop : (s t : WState) → SameState s t → has_drop s.entries ≡ has_drop t.entries
same_drop s t r = sym (ordered_drop (methods_in s.entries) s.name.place (has_drop s.entries)) ∙ like_drop (ordered s) t.entries r.entries

like_same : (a b c d : WEntry) → LikeEntry a b → SameEntry b c → LikeEntry d c → SameEntry a d
like_same (offer a) (offer b) (offer c) (offer d) r s q = r.name ∙ s ∙ sym q.name
like_same (drop_end a) (drop_end b) (drop_end c) (drop_end d) r s q = tt
like_same (offer a) (drop_end b) c d r s q = absurd r
like_same (drop_end a) (offer b) c d r s q = absurd r
like_same (offer a) (offer b) (drop_end c) d r s q = absurd s
like_same (drop_end a) (drop_end b) (offer c) d r s q = absurd s
like_same (offer a) (offer b) (offer c) (drop_end d) r s q = absurd q
like_same (drop_end a) (drop_end b) (drop_end c) (offer d) r s q = absurd q

twice_kept : (x y : List WEntry × WEntry) → Pair LikeEntry x y → (c : Culprit) → IsTwice y c → (d : Culprit) × IsTwice x d
twice_kept x y r c h =
    let k = zip_contains LikeEntry x.0 y.0 h.1 r.0 h.2 in
    (entry_blamed x.1, (refl, k.0, k.1, like_same k.0 h.1 y.1 x.1 k.2 h.3 r.1))

-- the names of the methods of a state stand once, where its entries do
once_names : (earlier es : List WEntry) (seen : List Naming)
    → ((t : Name) → Contains (texts seen) t → (m : WMethod) × Contains earlier (offer m) × (m.name.text ≡ t))
    → Clean IsTwice (behind earlier es) → Clean IsRepeat (behind seen (map (λ (m : WMethod). m.name) (methods_in es)))
once_names earlier [] seen from h = tt
once_names earlier (offer m ∷ es) seen from h = (
  (λ c g. let x = from m.name.text g.1 in h.0 c (g.0, offer x.0, x.1, x.2)),
  once_names (earlier ++ offer m ∷ []) es (seen ++ m.name ∷ []) more h.1,
)
  where
    more : (t : Name) → Contains (texts (seen ++ m.name ∷ [])) t → (n : WMethod) × Contains (earlier ++ offer m ∷ []) (offer n)
        × (n.name.text ≡ t)
    more t g = elim (Contains-push_cases (texts seen) m.name.text t
        (subst (λ (ts : List Name). Contains ts t) (map-append (λ (n : Naming). n.text) seen (m.name ∷ [])) g)) [
          | inl old ↦ let x = from t old in (x.0, Contains-append_left earlier (offer m ∷ []) (offer x.0) x.1, x.2)
          | inr e ↦ (m, Contains-push earlier (offer m), e)
        ]
once_names earlier (drop_end p ∷ es) seen from h =
    once_names (earlier ++ drop_end p ∷ []) es seen
    (λ t g. let x = from t g in (x.0, Contains-append_left earlier (drop_end p ∷ []) (offer x.0) x.1, x.2)) h.1

same_offer : (m n : WMethod) → offer m ≡ offer n → m.name.text ≡ n.name.text
same_offer m n e = let same : m ≡ n = cc in ap (λ (k : WMethod). k.name.text) same

no_offer : {X : Type 0} (m : WMethod) (p : Place) → offer m ≡ drop_end p → X
no_offer m p e = absurd cc

-- and entries in the order of a layout do, where the names of methods do
once_entries : (earlier : List WEntry) (seen : List Naming) (ms : List WMethod) (p : Place) (b : Bool)
    → ((m : WMethod) → Contains earlier (offer m) → Contains (texts seen) m.name.text) → ((q : Place) → Contains earlier (drop_end q) → ⊥)
    → Clean IsRepeat (behind seen (map (λ (m : WMethod). m.name) ms)) → Clean IsTwice (behind earlier (map offer ms ++ drop_last p b))
once_entries earlier seen [] p false met unmarked h = tt
once_entries earlier seen [] p true met unmarked h = ((λ c g. left c g), tt)
  where
    left : (c : Culprit) → IsTwice (earlier, drop_end p) c → ⊥
    left c (is, offer m, among, same) = same
    left c (is, drop_end q, among, same) = unmarked q among
once_entries earlier seen (m ∷ ms) p b met unmarked h =
    ((λ c g. twice c g), once_entries (earlier ++ offer m ∷ []) (seen ++ m.name ∷ []) ms p b more still h.1)
  where
    twice : (c : Culprit) → IsTwice (earlier, offer m) c → ⊥
    twice c (is, offer n, among, same) = h.0 (blamed m.name) (refl, subst (Contains (texts seen)) same (met n among))
    twice c (is, drop_end q, among, same) = same

    more : (n : WMethod) → Contains (earlier ++ offer m ∷ []) (offer n) → Contains (texts (seen ++ m.name ∷ [])) n.name.text
    more n g = subst (λ (ts : List Name). Contains ts n.name.text) (sym (map-append (λ (k : Naming). k.text) seen (m.name ∷ [])))
        (elim (Contains-push_cases earlier (offer m) (offer n) g) [
          | inl old ↦ Contains-append_left (texts seen) (m.name.text ∷ []) n.name.text (met n old)
          | inr e ↦ subst (Contains (texts seen ++ m.name.text ∷ [])) (same_offer m n e) (Contains-push (texts seen) m.name.text)
        ])

    still : (q : Place) → Contains (earlier ++ offer m ∷ []) (drop_end q) → ⊥
    still q g = elim (Contains-push_cases earlier (offer m) (drop_end q) g) [ inl old ↦ unmarked q old | inr e ↦ no_offer m q e ]

once_ordered : (s : WState) → Clean IsTwice (with_earlier s.entries) → Clean IsTwice (with_earlier (ordered s))
once_ordered s h =
    once_entries [] [] (methods_in s.entries) s.name.place (has_drop s.entries)
    (λ m g. absurd (omega (arith, g.1))) (λ q g. omega (arith, g.1))
    (once_names [] s.entries [] (λ t g. absurd (omega (arith, g.1))) h)

once_state : (s t : WState) → SameState s t → Clean IsTwice (with_earlier s.entries) → Clean IsTwice (with_earlier t.entries)
once_state s t r h =
    clean_zip (Pair LikeEntry) IsTwice IsTwice twice_kept (with_earlier (ordered s)) (with_earlier t.entries)
    (zip_behind LikeEntry [] [] (ordered s) t.entries tt r.entries) (once_ordered s h)

clean_apart : {X : Type 0} (At : X → Culprit → Type 0) (xs ys : List X) → Clean At (xs ++ ys) → Clean At xs × Clean At ys
clean_apart At [] ys h = (tt, h)
clean_apart At (x ∷ xs) ys h = let r = clean_apart At xs ys h.1 in ((h.0, r.0), r.1)

clean_joined : {X : Type 0} (At : X → Culprit → Type 0) (xs ys : List X) → Clean At xs → Clean At ys → Clean At (xs ++ ys)
clean_joined At [] ys h g = g
clean_joined At (x ∷ xs) ys h g = (h.0, clean_joined At xs ys h.1 g)

once_states : (ss ts : List WState) → Zip SameState ss ts → Clean IsTwice (flat_map (λ (s : WState). with_earlier s.entries) ss)
    → Clean IsTwice (flat_map (λ (s : WState). with_earlier s.entries) ts)
once_states [] [] z h = tt
once_states (s ∷ ss) (t ∷ ts) z h =
    let r = clean_apart IsTwice (with_earlier s.entries) (flat_map (λ (s : WState). with_earlier s.entries) ss) h in
    clean_joined IsTwice (with_earlier t.entries) (flat_map (λ (s : WState). with_earlier s.entries) ts)
    (once_state s t z.0 r.0) (once_states ss ts z.1 r.1)
once_states [] (t ∷ ts) z h = absurd z
once_states (s ∷ ss) [] z h = absurd z

-- ---- no fault

next_of : {K C : Type 0} {Of : K → Option C → Type 0} (k : K) (ks : List K) → FirstOf Of (k ∷ ks) None → Of k None × FirstOf Of ks None
next_of {K} {C} {Of} k ks p = go (k ∷ ks) None p refl refl
  where
    go : (ls : List K) (r : Option (K × C)) → FirstOf Of ls r → ls ≡ k ∷ ks → r ≡ None → Of k None × FirstOf Of ks None
    go ls r none e n = let no : ⊥ = cc in absurd no
    go ls r (this a) e n = let no : ⊥ = cc in absurd no
    go ls r (next {k = j} {ks = js} a q) e n =
        let first : j ≡ k = cc in let rest : js ≡ ks = cc in
        (subst (λ (z : K). Of z None) first a, subst (λ (zs : List K). FirstOf Of zs None) rest (subst (FirstOf Of js) n q))

pub known : (w : WFile) → IsFault w None → Clean (IsUnknown (state_names w)) (targets_of w)
known w h = judged-clean (next_of _ _ (next_of _ _ h).1).0

module _ (w v : WFile) (same : Zip SameState w.states v.states) where
  names : Zip SameNaming (state_names w) (state_names v)
  names = zip_map SameState SameNaming (λ s. s.name) (λ s. s.name) (λ x y r. r.name) w.states v.states same

  methods : Zip SameMethod (methods_of w) (methods_of v)
  methods = zip_flat SameState SameMethod (λ s. methods_in s.entries) (λ s. methods_in s.entries) same_methods w.states v.states same

  targets : Zip SameNaming (targets_of w) (targets_of v)
  targets = zip_flat SameMethod SameNaming (λ m. leads_to m.target) (λ m. leads_to m.target)
      (λ x y r. leads_same x.target y.target r.target) (methods_of w) (methods_of v) methods

  in_lists : Zip (Pair SameNaming) (flat_map (λ (m : WMethod). with_earlier (labels_of m)) (methods_of w))
      (flat_map (λ (m : WMethod). with_earlier (labels_of m)) (methods_of v))
  in_lists =
      zip_flat SameMethod (Pair SameNaming) (λ m. with_earlier (labels_of m)) (λ m. with_earlier (labels_of m))
      (λ x y r. zip_behind SameNaming [] [] (labels_of x) (labels_of y) tt (labels_same x y r))
      (methods_of w) (methods_of v) methods

  pub faultless : IsFault w None → IsFault v None
  faultless h =
      let a = next_of _ _ h in let b = next_of _ _ a.1 in let c = next_of _ _ b.1 in let d = next_of _ _ c.1 in let e = next_of _ _ d.1 in
      let f = next_of _ _ e.1 in
      next (clean-judged _ (clean_zip (Pair SameNaming) IsRepeat IsRepeat repeat_kept _ _ (zip_behind SameNaming [] [] _ _ tt names)
      (judged-clean a.0)))
      (next (clean-judged _ (clean_zip SameNaming (IsUnknown (state_names w)) (IsUnknown (state_names v))
      (unknown_kept (state_names w) (state_names v) (texts_same _ _ names)) _ _ targets (judged-clean b.0)))
      (next (clean-judged _ (once_states w.states v.states same (judged-clean c.0)))
      (next (clean-judged _ (clean_zip (Pair SameMethod) HasOther HasOther other_kept _ _ (zip_behind SameMethod [] [] _ _ tt methods)
      (judged-clean d.0)))
      (next (clean-judged _ (clean_zip (Pair SameNaming) IsRepeat IsRepeat repeat_kept _ _ in_lists (judged-clean e.0)))
      (next (clean-judged _ (clean_zip SameNaming IsNamedEnd IsNamedEnd end_kept _ _ names (judged-clean f.0))) none)))))

-- ---- the same meaning

module _ (states : List Name) where
  target_same : (s t : WTarget) → SameTarget s t → target_meant states s ≡ target_meant states t
  target_same (to_one n) (to_one m) h = ap (λ (x : Name). One (place_named states x)) h
  target_same (by_label bs) (by_label ds) h =
      ap (λ (xs : List Branch). ByAnswer xs)
      (zip_eq SameBranch (branch_meant states) (branch_meant states)
      (λ x y r. let F : Name → Name → Branch = λ l t. record { label = l; to = place_named states t } in λ i. F (r.0 i) (r.1 i)) bs ds h)
  target_same (to_one n) (by_label ds) h = absurd h
  target_same (by_label bs) (to_one m) h = absurd h

  method_same : (m n : WMethod) → SameMethod m n → method_meant states m ≡ method_meant states n
  method_same m n r =
      let t = target_same m.target n.target r.target in
      λ i. record { result = r.result i; name = r.name i; params = r.params i; target = t i }

  state_same : (s t : WState) → SameState s t → state_meant states s ≡ state_meant states t
  state_same s t r =
      let ms = zip_eq SameMethod (method_meant states) (method_meant states) method_same (methods_in s.entries) (methods_in t.entries)
      (same_methods s t r) in
      let d = same_drop s t r in
      λ i. record { name = r.name i; methods = ms i; drops = d i }

pub meaning_same : (w v : WFile) → w.name ≡ v.name → Zip SameState w.states v.states → typestate_of w ≡ typestate_of v
meaning_same w v name same =
    let T : Name → List State → Typestate = λ n ss. record { name = n; states = ss } in
    let ss : map (state_meant (texts (state_names w))) w.states ≡ map (state_meant (texts (state_names v))) v.states =
    zip_eq SameState (state_meant (texts (state_names w))) (state_meant (texts (state_names w)))
    (state_same (texts (state_names w))) w.states v.states same
    ∙ ap (λ (ns : List Name). map (state_meant ns) v.states) (texts_same _ _ (names w v same)) in
    λ i. T (name i) (ss i)
