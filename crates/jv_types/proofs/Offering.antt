-- The methods that a typestate offers, each name once.
use Rattle.std.proofs.Common.{◌≡◌, ℕ, zero, suc, ◌+◌, ◌<◌, ⊎_elim, arith, length, get_or, drop, Bor, List, [], ◌∷◌, ◌++◌, map, Option, Some}
use Rattle.std.proofs.Common.{None, Bool, true, false, not, ◌&&◌, ◌||◌, cond, Contains, refl, sym, ap, subst, ◌∙◌, true≢false, append_assoc}
use Rattle.std.proofs.Common.{append-nil}
use Rattle.std.specs.Prelude.{is_some, option_and_then}
use Rattle.std.specs.List.{list_any, find}
use Rattle.std.specs.Option.{option_or, option_map}
use Rattle.std.specs.Str.{bytes_eq}
use Rattle.std.proofs.lemmas.List.{map-append}
use Rattle.std.proofs.lemmas.List.Elements.{Contains-append_cases}
use Rattle.std.proofs.lemmas.Slice.Eq.{bytes_eq-Decides}
use Rattle.mg_text.specs.Call.{Name}
use Rattle.mg_text.specs.Interned.{with_text}
use Rattle.mg_read.specs.Culprit.{Culprit, culprit}
use Rattle.ts_tree.specs.declared.parts.Method.{Method as KeptMethod}
use Rattle.ts_tree.specs.declared.parts.State.{State as KeptState}
use Rattle.ts_tree.specs.View.{method_of, state_of}
use Rattle.ts_tree.specs.Typestate.{Method, State, Typestate}
use Rattle.ts_tree.specs.Proper.{IsOffered, IsProper}
use Rattle.jv_tree.specs.Source as sources
use Rattle.jv_meaning.specs.Program.{typestate_named, method_named}
use Rattle.jv_rules.specs.Program.{Program, typestate_of, offers_in, is_of_protocol}
use Rattle.jv_rules.specs.inner.Deciding.{when, first_by}
use Rattle.jv_rules.proofs.Tests.{nothing_in, in_first, in_later}
use Rattle.jv_types.specs.declared.demands.Demand.{Demand}
use Rattle.jv_types.specs.declared.protocols.Protocol.{Protocol}
use Rattle.jv_types.specs.declared.demands.Demand.TheVariants as demands
use Rattle.jv_types.specs.inner.Blaming.{is_in, noted}
use Rattle.jv_types.specs.inner.Declaring.{is_instance, missing_method, missing_in_class, type_eq, types_eq, same_signature, other_labels}
use Rattle.jv_types.specs.inner.Declaring.{broken_method, broken_in_class}
use Rattle.jv_types.specs.inner.Entries.{is_offered, OffersAll}
use Rattle.jv_types.specs.inner.Offering.{offers_seen, new_among, firsts_among, AreAlike, labels_differ, is_mislabelled, mislabelled}
use Rattle.jv_types.proofs.AtIndex.{drop_at}
use Rattle.jv_types.proofs.Building.{none_or}
use Rattle.jv_types.proofs.Declaring.{type_is}
use Rattle.jv_types.proofs.Demanding.{nothing_demanded}
use Rattle.jv_types.proofs.Finding.{any_at}
use Rattle.jv_types.proofs.Offers.{any_push, any_with, offers_all}

-- ---- the methods of states, one after another

pub offers_more : (ss : List KeptState) (i : ℕ) (x : KeptState) → i < length ss → x ≡ get_or ss i x →
    (old new : List (Bor KeptMethod)) (ms : List KeptMethod) (whole : List Method) →
    offers_seen old ++ offers_in (map state_of (drop i ss)) ≡ whole → offers_seen new ≡ offers_seen old ++ map method_of ms →
    ms ≡ x.methods.items →
    offers_seen new ++ offers_in (map state_of (drop (i + 1) ss)) ≡ whole
offers_more ss i x within is old new ms whole e m same =
    ap (λ l. l ++ offers_in (map state_of (drop (i + 1) ss))) (m ∙ ap (λ xs. offers_seen old ++ map method_of xs) same)
    ∙ append_assoc (offers_seen old) (map method_of x.methods.items) (offers_in (map state_of (drop (i + 1) ss)))
    ∙ ap (λ l. offers_seen old ++ offers_in (map state_of l)) (sym (drop_at ss i x within is))
    ∙ e

pub seen_push : (old new : List (Bor KeptMethod)) (x : Bor KeptMethod) → new ≡ old ++ x ∷ [] → offers_seen new ≡ offers_seen old
    ++ method_of x.now ∷ []
seen_push old new x e = ap offers_seen e ∙ map-append (λ (m : Bor KeptMethod). method_of m.now) old (x ∷ [])

pub none_new : (xs : List Method) (seen : List Name) (d : Method) (text : Name) (b : Bool) → text ≡ d.name → b ≡ not (is_in seen text) →
    b ≡ false → xs ≡ xs ++ new_among seen d
none_new xs seen d text b same e f = go (is_in seen d.name) (sym (e ∙ ap (λ n. not (is_in seen n)) same) ∙ f)
  where
    go : (b : Bool) → not b ≡ false → xs ≡ xs ++ cond b [] (d ∷ [])
    go true h = sym (append-nil xs)
    go false h = absurd (true≢false h)

pub one_new : (xs ys : List Method) (seen : List Name) (d : Method) (text : Name) (b : Bool) → text ≡ d.name → b ≡ not (is_in seen text) →
    b ≡ true → ys ≡ xs ++ d ∷ [] → ys ≡ xs ++ new_among seen d
one_new xs ys seen d text b same e f m = m ∙ go (is_in seen d.name) (sym (e ∙ ap (λ n. not (is_in seen n)) same) ∙ f)
  where
    go : (b : Bool) → not b ≡ true → xs ++ d ∷ [] ≡ xs ++ cond b [] (d ∷ [])
    go true h = absurd (true≢false (sym h))
    go false h = refl

module _ (os : List (Bor KeptMethod)) (i : ℕ) (x : Bor KeptMethod) (within : i < length os) (is : x ≡ get_or os i x)
    (names names' : List Name) (grown : names' ≡ with_text names x.now.name) where
  pub names_step : noted names' (map (λ m. m.name) (offers_seen (drop (i + 1) os))) ≡ noted names
      (map (λ m. m.name) (offers_seen (drop i os)))
  names_step =
      ap (λ n. noted n (map (λ m. m.name) (offers_seen (drop (i + 1) os)))) grown
      ∙ sym (ap (λ l. noted names (map (λ m. m.name) (offers_seen l))) (drop_at os i x within is))

  pub firsts_step : (fs fs' : List Method) → fs' ≡ fs ++ new_among names (method_of x.now) →
      fs' ++ firsts_among names' (offers_seen (drop (i + 1) os)) ≡ fs ++ firsts_among names (offers_seen (drop i os))
  firsts_step fs fs' e =
      ap (λ l. l ++ firsts_among names' (offers_seen (drop (i + 1) os))) e
      ∙ append_assoc fs (new_among names (method_of x.now)) (firsts_among names' (offers_seen (drop (i + 1) os)))
      ∙ ap (λ n. fs ++ (new_among names (method_of x.now) ++ firsts_among n (offers_seen (drop (i + 1) os)))) grown
      ∙ sym (ap (λ l. fs ++ firsts_among names (offers_seen l)) (drop_at os i x within is))

pub typestate_more : (ts : List Typestate) (i : ℕ) (t : Typestate) → i < length ts → t ≡ get_or ts i t →
    (ps new : List Protocol) (p : Protocol) → new ≡ ps ++ p ∷ [] → p.of.now ≡ t →
    map (λ p. p.of.now) ps ++ drop i ts ≡ ts → map (λ p. p.of.now) new ++ drop (i + 1) ts ≡ ts
typestate_more ts i t within is ps new p m e inv =
    ap (λ (l : List Protocol). map (λ (p : Protocol). p.of.now) l ++ drop (i + 1) ts) m
    ∙ ap (λ (l : List Typestate). l ++ drop (i + 1) ts) (map-append (λ (p : Protocol). p.of.now) ps (p ∷ []))
    ∙ append_assoc (map (λ (p : Protocol). p.of.now) ps) (p.of.now ∷ []) (drop (i + 1) ts)
    ∙ ap (λ (x : Typestate). map (λ (p : Protocol). p.of.now) ps ++ (x ∷ drop (i + 1) ts)) e
    ∙ ap (λ (l : List Typestate). map (λ (p : Protocol). p.of.now) ps ++ l) (sym (drop_at ts i t within is))
    ∙ inv

-- ---- methods of one name are alike

offered_in : (m : Method) (ss : List State) → Contains (offers_in ss) m → IsOffered ss m
offered_in m [] h = absurd (nothing_in m h)
offered_in m (s ∷ ss) h =
    ⊎_elim (λ k. (s, in_first ss s, k)) (λ k. let r = offered_in m ss k in (r.0, in_later ss s r.0 r.1, r.2))
    (Contains-append_cases s.methods (offers_in ss) m h)

pub alike_proper : (ss : List State) → IsProper ss → AreAlike (offers_in ss)
alike_proper ss proper = record { each = λ m n h k same. proper.one_signature m n (offered_in m ss h) (offered_in n ss k) same }

-- ---- a typestate that is looked into

module _ (t : Typestate) (named : Name) (items : List KeptState) (view_is : record { name = named; states = map state_of items } ≡ t) where
  pub states_are : (slice : List KeptState) → slice ≡ items → map state_of slice ≡ t.states
  states_are slice same = ap (map state_of) same ∙ ap (λ (t : Typestate). t.states) view_is

  pub name_is : (text : Name) → text ≡ named → text ≡ t.name
  name_is text same = same ∙ ap (λ (t : Typestate). t.name) view_is

  pub made_alike : IsProper (map state_of items) → AreAlike (offers_in t.states)
  made_alike proper = alike_proper t.states (subst (λ (t : Typestate). IsProper t.states) view_is proper)

pub made_first : (ds fs : List Method) (names : List Name) (slice items : List (Bor KeptMethod)) → names ≡ [] → slice ≡ items →
    offers_seen items ≡ ds → fs ≡ firsts_among names (offers_seen slice) →
    fs ≡ firsts_among [] ds
made_first ds fs names slice items none same all is =
    is ∙ ap (λ n. firsts_among n (offers_seen slice)) none ∙ ap (λ (l : List (Bor KeptMethod)). firsts_among [] (offers_seen l)) same ∙
    ap (firsts_among []) all

pub made_named : (t : Typestate) (old new : List Name) (slice items : List (Bor KeptMethod)) → old ≡ [] → slice ≡ items →
    offers_seen items ≡ offers_in t.states →
    new ≡ noted old (map (λ m. m.name) (offers_seen slice)) → OffersAll (Some t) new
made_named t old new slice items none same all is =
    offers_all t new (offers_seen items) all
    (is ∙ ap (λ n. noted n (map (λ m. m.name) (offers_seen slice))) none ∙
    ap (λ (l : List (Bor KeptMethod)). noted [] (map (λ m. m.name) (offers_seen l))) same)

-- ---- what holds of the first of each name

either_way : {P : Type 0} (a b : Bool) → (a || b) ≡ true → (a ≡ true → P) → (b ≡ true → P) → P
either_way true b e f g = f refl
either_way false b e f g = g e

module _ {C : Type 0} (f : Method → Option C) where
  abbrev Skips : List Name → List Method → Type 0
  Skips seen ds = (d : Method) → Contains ds d → list_any (bytes_eq d.name) seen ≡ true → f d ≡ None

  abbrev SoForAll : List Method → Type 0
  SoForAll ds = (d e : Method) → Contains ds d → Contains ds e → d.name ≡ e.name → f d ≡ None → f e ≡ None

  pub firsts_by : (seen : List Name) (ds : List Method) → SoForAll ds → Skips seen ds → first_by f (firsts_among seen ds) ≡ first_by f ds
  firsts_by seen [] a s = refl
  firsts_by seen (d ∷ ds) a s = go (is_in seen d.name) refl
      (λ more k. firsts_by more ds (λ m n h j. a m n (in_later ds d m h) (in_later ds d n j)) k)
    where
      skips : Skips seen ds
      skips = λ m h. s m (in_later ds d m h)

      more : f d ≡ None → Skips (seen ++ d.name ∷ []) ds
      more none = λ m h k.
          either_way (list_any (bytes_eq m.name) seen) (bytes_eq m.name d.name) (sym (any_push (bytes_eq m.name) seen d.name) ∙ k)
          (λ e. skips m h e)
          (λ e. a d m (in_first ds d) (in_later ds d m h) (sym ((bytes_eq-Decides m.name d.name).0 e)) none)

      here : (o : Option C) → f d ≡ o → (Skips (seen ++ d.name ∷ []) ds → first_by f (firsts_among (seen ++ d.name ∷ []) ds) ≡ first_by f
          ds) →
          option_or (f d) (first_by f (firsts_among (seen ++ d.name ∷ []) ds)) ≡ option_or (f d) (first_by f ds)
      here None e rest = ap (option_or (f d)) (rest (more e))
      here (Some k) e rest = ap (λ o. option_or o (first_by f (firsts_among (seen ++ d.name ∷ []) ds))) e ∙
          sym (ap (λ o. option_or o (first_by f ds)) e)

      go : (b : Bool) → is_in seen d.name ≡ b → ((met : List Name) → Skips met ds → first_by f (firsts_among met ds) ≡ first_by f ds) →
          first_by f (cond b [] (d ∷ []) ++ firsts_among (cond b seen (seen ++ d.name ∷ [])) ds) ≡ option_or (f d) (first_by f ds)
      go true e rest = rest seen skips ∙ sym (ap (λ o. option_or o (first_by f ds)) (s d (in_first ds d) (sym (any_at d.name seen) ∙ e)))
      go false e rest = here (f d) refl (rest (seen ++ d.name ∷ []))

missing_firsts : (c : sources.Class) (ds : List Method) → first_by (missing_method c) (firsts_among [] ds) ≡ first_by (missing_method c) ds
missing_firsts c ds =
    firsts_by (missing_method c) [] ds (λ d e h k same n. subst (λ x. when (not (is_instance (method_named c x))) (culprit c.place x) ≡
    None) same n) (λ d h k. absurd (true≢false (sym k)))

abbrev found_by : (Method → Bool) → Method → Option Bool
found_by p d = cond (p d) (Some true) None

any_as : (p : Method → Bool) (ds : List Method) → list_any p ds ≡ is_some (first_by (found_by p) ds)
any_as p [] = refl
any_as p (d ∷ ds) = ap (λ b. p d || b) (any_as p ds) ∙ go (p d)
  where
    go : (b : Bool) → (b || is_some (first_by (found_by p) ds)) ≡ is_some (option_or (cond b (Some true) None) (first_by (found_by p) ds))
    go true = refl
    go false = refl

any_firsts : (p : Method → Bool) (ds : List Method) → ((d e : Method) → Contains ds d → Contains ds e → d.name ≡ e.name → p d ≡ p e) →
    list_any p (firsts_among [] ds) ≡ list_any p ds
any_firsts p ds same =
    any_as p (firsts_among [] ds)
    ∙ ap is_some (firsts_by (found_by p) [] ds (λ d e h k n x. sym (ap (λ b. cond b (Some true) None) (same d e h k n)) ∙ x)
    (λ d h k. absurd (true≢false (sym k))))
    ∙ sym (any_as p ds)

same_by : {X C : Type 0} (f g : X → Option C) → ((x : X) → f x ≡ g x) → (xs : List X) → first_by f xs ≡ first_by g xs
same_by f g h [] = refl
same_by f g h (x ∷ xs) = ap (λ o. option_or o (first_by f xs)) (h x) ∙ ap (option_or (g x)) (same_by f g h xs)

module _ (program : Program) (ds : List Method) (alike : AreAlike ds) where
  one_broken : (m : sources.Method) → broken_method program demands.OfSignature (firsts_among [] ds) m ≡ broken_method program
      demands.OfSignature ds m
  one_broken m =
      ap (λ b. when (not m.is_static && b) (culprit m.place m.name))
      (any_firsts (λ d. bytes_eq d.name m.name && not (same_signature m d)) ds
      (λ d e h k n.
      ap (λ x. bytes_eq x m.name && not (type_eq d.result m.result && types_eq d.params (map (λ p. p.ty) m.params))) n
      ∙ ap (λ t. bytes_eq e.name m.name && not (type_eq t m.result && types_eq d.params (map (λ p. p.ty) m.params)))
      (alike.each d e h k n).0
      ∙ ap (λ ps. bytes_eq e.name m.name && not (type_eq e.result m.result && types_eq ps (map (λ p. p.ty) m.params)))
      (alike.each d e h k n).1))

  broken_firsts : (ms : List sources.Method) → first_by (broken_method program demands.OfSignature (firsts_among [] ds)) ms ≡ first_by
      (broken_method program demands.OfSignature ds) ms
  broken_firsts ms = same_by (broken_method program demands.OfSignature (firsts_among [] ds)) (broken_method program demands.OfSignature ds)
      one_broken ms

-- ---- the typestate of a class

module _ (program : Program) (c : sources.Class) (r : Option Typestate) (follows : r ≡ typestate_of program c) where
  pub missing_of : (t : Typestate) (fs : List Method) → fs ≡ firsts_among [] (offers_in t.states) → Some t ≡ typestate_of program c →
      first_by (missing_method c) fs ≡ missing_in_class r c
  missing_of t fs e at = ap (first_by (missing_method c)) e ∙ missing_firsts c (offers_in t.states) ∙ ap (λ o. missing_in_class o c)
      (at ∙ sym follows)

  pub missing_none : None ≡ typestate_of program c → None ≡ missing_in_class r c
  missing_none at = ap (λ o. missing_in_class o c) (at ∙ sym follows)

  pub signature_of : (t : Typestate) (fs : List Method) → AreAlike (offers_in t.states) → fs ≡ firsts_among [] (offers_in t.states) →
      Some t ≡ typestate_of program c →
      first_by (broken_method program demands.OfSignature fs) c.methods ≡ broken_in_class program demands.OfSignature r c
  signature_of t fs alike e at =
      ap (λ l. first_by (broken_method program demands.OfSignature l) c.methods) e ∙ broken_firsts program (offers_in t.states) alike
      c.methods
      ∙ ap (λ o. broken_in_class program demands.OfSignature o c) (at ∙ sym follows)

  pub labels_of : (t : Typestate) (fs : List Method) → fs ≡ offers_in t.states → Some t ≡ typestate_of program c →
      first_by (broken_method program demands.OfLabels fs) c.methods ≡ broken_in_class program demands.OfLabels r c
  labels_of t fs e at = ap (λ l. first_by (broken_method program demands.OfLabels l) c.methods) e ∙
      ap (λ o. broken_in_class program demands.OfLabels o c) (at ∙ sym follows)

  pub broken_none : (k : Demand) → None ≡ typestate_of program c → None ≡ broken_in_class program k r c
  broken_none k at = sym (ap (λ o. broken_in_class program k o c) (follows ∙ sym at) ∙ nothing_demanded program k c.methods)

pub of_protocol : (program : Program) (c : sources.Class) (o : Option Typestate) (name : Name) → o ≡ typestate_of program c →
    is_offered o name ≡ is_of_protocol program c name
of_protocol program c o name e = ap (λ x. is_offered x name) e ∙ go (typestate_of program c)
  where
    go : (x : Option Typestate) → is_offered x name ≡ elim x [
      | None ↦ false
      | Some t ↦ list_any (λ m. bytes_eq m.name name)
          (offers_in t.states)
    ]
    go None = refl
    go (Some t) = refl

-- ---- labels

when_none : (b : Bool) (k : Culprit) → when b k ≡ None → b ≡ false
when_none true k e = let no : ⊥ = cc in absurd no
when_none false k e = refl

or_false : (a b : Bool) → (a || b) ≡ false → (a ≡ false) × (b ≡ false)
or_false true b e = absurd (true≢false e)
or_false false b e = (refl, e)

and_left : (a b : Bool) → (a && b) ≡ true → a ≡ true
and_left true b e = refl
and_left false b e = e

module _ (program : Program) (m : sources.Method) where
  abbrev differs : Method → Bool
  differs d = bytes_eq d.name m.name && not (same_signature m d)

  abbrev answers : Method → Bool
  answers d = bytes_eq d.name m.name && other_labels program m.result d.target

  one_fine : (d : Method) → differs d ≡ false → labels_differ program d ≡ false → answers d ≡ false
  one_fine d e w = go (bytes_eq d.name m.name) (same_signature m d) e
      (λ s. ap (λ t. other_labels program t d.target)
      (sym (type_is d.result m.result (and_left (type_eq d.result m.result) (types_eq d.params (map (λ p. p.ty) m.params)) s))) ∙ w)
    where
      go : (b s : Bool) → (b && not s) ≡ false → (s ≡ true → other_labels program m.result d.target ≡ false) →
          (b && other_labels program m.result d.target) ≡ false
      go true true h f = f refl
      go true false h f = absurd (true≢false h)
      go false s h f = refl

  answers_fine : (ds : List Method) → list_any differs ds ≡ false → list_any (labels_differ program) ds ≡ false →
      list_any answers ds ≡ false
  answers_fine [] e w = refl
  answers_fine (d ∷ ds) e w =
      let h = or_false (differs d) (list_any differs ds) e in
      let k = or_false (labels_differ program d) (list_any (labels_differ program) ds) w in
      ap (λ b. b || list_any answers ds) (one_fine d h.0 k.0) ∙ answers_fine ds h.1 k.1

  method_fine : (ds : List Method) → broken_method program demands.OfSignature ds m ≡ None → list_any (labels_differ program) ds ≡ false →
      broken_method program demands.OfLabels ds m ≡ None
  method_fine ds e w = ap (λ b. when b (culprit m.place m.name))
      (go (not m.is_static) (when_none (not m.is_static && list_any differs ds) (culprit m.place m.name) e))
    where
      go : (b : Bool) → (b && list_any differs ds) ≡ false → (b && list_any answers ds) ≡ false
      go true h = answers_fine ds h w
      go false h = refl

labels_fine : (program : Program) (ds : List Method) (ms : List sources.Method) → first_by (broken_method program demands.OfSignature ds) ms
    ≡ None → list_any (labels_differ program) ds ≡ false →
    first_by (broken_method program demands.OfLabels ds) ms ≡ None
labels_fine program ds [] e w = refl
labels_fine program ds (m ∷ ms) e w =
    let h = none_or (broken_method program demands.OfSignature ds m) (first_by (broken_method program demands.OfSignature ds) ms) e in
    ap (λ o. option_or o (first_by (broken_method program demands.OfLabels ds) ms)) (method_fine program m ds h.0 w) ∙ labels_fine program
    ds ms h.1 w

-- ---- names of typestates

or_true : (a b : Bool) → b ≡ true → (a || b) ≡ true
or_true true b e = refl
or_true false b e = e

kept_met : (program : Program) (n : Name) (met : List Name) (ts : List Typestate) → list_any (bytes_eq n) met ≡ true →
    list_any (bytes_eq n) (mislabelled program met ts) ≡ true
kept_met program n met [] e = e
kept_met program n met (t ∷ ts) e = kept_met program n (cond (is_mislabelled program t) (with_text met t.name) met) ts
    (go (is_mislabelled program t))
  where
    go : (b : Bool) → list_any (bytes_eq n) (cond b (with_text met t.name) met) ≡ true
    go true = any_with n met t.name ∙ ap (λ b. b || bytes_eq n t.name) e
    go false = e

met_found : (program : Program) (n : Name) (met : List Name) (ts : List Typestate) (t : Typestate) → find (λ x. bytes_eq x.name n) ts ≡ Some
    t → is_mislabelled program t ≡ true →
    list_any (bytes_eq t.name) (mislabelled program met ts) ≡ true
met_found program n met [] t e w = let h : None ≡ Some t = e in let no : ⊥ = cc in absurd no
met_found program n met (x ∷ ts) t e w =
    go (bytes_eq x.name n) e (λ k. met_found program n (cond (is_mislabelled program x) (with_text met x.name) met) ts t k w)
  where
    here : x ≡ t → list_any (bytes_eq t.name) (cond (is_mislabelled program x) (with_text met x.name) met) ≡ true
    here same =
        ap (λ b. list_any (bytes_eq t.name) (cond b (with_text met x.name) met)) (ap (is_mislabelled program) same ∙ w)
        ∙ any_with t.name met x.name
        ∙ or_true (list_any (bytes_eq t.name) met) (bytes_eq t.name x.name)
        ((bytes_eq-Decides t.name x.name).1 (ap (λ y. y.name) (sym same)))

    go : (b : Bool) → cond b (Some x) (find (λ y. bytes_eq y.name n) ts) ≡ Some t →
        (find (λ y. bytes_eq y.name n) ts ≡ Some t →
        list_any (bytes_eq t.name) (mislabelled program (cond (is_mislabelled program x) (with_text met x.name) met) ts) ≡ true) →
        list_any (bytes_eq t.name) (mislabelled program (cond (is_mislabelled program x) (with_text met x.name) met) ts) ≡ true
    go true k rest = let same : x ≡ t = cc in kept_met program t.name (cond (is_mislabelled program x) (with_text met x.name) met) ts
        (here same)
    go false k rest = rest k

met_named : (program : Program) (o : Option Name) (t : Typestate) → option_and_then (typestate_named program.typestates) o ≡ Some t →
    is_mislabelled program t ≡ true →
    list_any (bytes_eq t.name) (mislabelled program [] program.typestates) ≡ true
met_named program None t e w = let h : None ≡ Some t = e in let no : ⊥ = cc in absurd no
met_named program (Some n) t e w = met_found program n [] program.typestates t e w

-- a typestate whose name isn't among them has no such method
not_met : (program : Program) (c : sources.Class) (t : Typestate) → Some t ≡ typestate_of program c →
    list_any (bytes_eq t.name) (mislabelled program [] program.typestates) ≡ false →
    is_mislabelled program t ≡ false
not_met program c t at e = go (is_mislabelled program t) refl
  where
    go : (b : Bool) → is_mislabelled program t ≡ b → b ≡ false
    go true h = absurd (true≢false (sym (met_named program c.typestate t (sym at) h) ∙ e))
    go false h = refl

pub none_answer : (program : Program) (c : sources.Class) (r : Option Typestate) (t : Typestate) (names : List Name) (met : Bool) →
    r ≡ typestate_of program c → Some t ≡ typestate_of program c →
    names ≡ mislabelled program [] program.typestates → broken_in_class program demands.OfSignature r c ≡ None →
    met ≡ list_any (bytes_eq t.name) names → met ≡ false →
    None ≡ broken_in_class program demands.OfLabels r c
none_answer program c r t names met follows at are alike is fresh =
    sym (labels_fine program (offers_in t.states) c.methods (ap (λ o. broken_in_class program demands.OfSignature o c) (at ∙ sym follows) ∙
    alike)
    (not_met program c t at (sym (is ∙ ap (list_any (bytes_eq t.name)) are) ∙ fresh)))
    ∙ ap (λ o. broken_in_class program demands.OfLabels o c) (at ∙ sym follows)

pub met_step : (program : Program) (ps : List Protocol) (i : ℕ) (p : Protocol) → i < length ps → p ≡ get_or ps i p → (met new : List Name) →
    new ≡ cond (is_mislabelled program p.of.now) (with_text met p.of.now.name) met →
    mislabelled program new (map (λ p. p.of.now) (drop (i + 1) ps)) ≡ mislabelled program met (map (λ p. p.of.now) (drop i ps))
met_step program ps i p within is met new e =
    ap (λ n. mislabelled program n (map (λ (p : Protocol). p.of.now) (drop (i + 1) ps))) e
    ∙ sym (ap (λ (l : List Protocol). mislabelled program met (map (λ (p : Protocol). p.of.now) l)) (drop_at ps i p within is))

pub all_met : (program : Program) (old new : List Name) (slice items : List Protocol) (ts : List Typestate) → old ≡ [] → slice ≡ items →
    map (λ p. p.of.now) items ≡ ts →
    new ≡ mislabelled program old (map (λ p. p.of.now) slice) → new ≡ mislabelled program [] ts
all_met program old new slice items ts none same all is =
    is ∙ ap (λ n. mislabelled program n (map (λ (p : Protocol). p.of.now) slice)) none ∙
    ap (λ (l : List Protocol). mislabelled program [] (map (λ (p : Protocol). p.of.now) l)) same ∙ ap (mislabelled program []) all

pub differ_is : (program : Program) (t : Typestate) (slice items : List (Bor KeptMethod)) (d : Bool) → slice ≡ items →
    offers_seen items ≡ offers_in t.states →
    d ≡ list_any (labels_differ program) (offers_seen slice) → d ≡ is_mislabelled program t
differ_is program t slice items d same all is =
    is ∙ ap (λ (l : List (Bor KeptMethod)). list_any (labels_differ program) (offers_seen l)) same ∙ ap (list_any (labels_differ program))
    all

pub not_noted : (met more : List Name) (b d : Bool) → d ≡ b → d ≡ false → met ≡ cond b more met
not_noted met more b d e f = sym (ap (λ c. cond c more met) (sym e ∙ f))

pub now_noted : (met more new : List Name) (b d : Bool) → d ≡ b → d ≡ true → new ≡ more → new ≡ cond b more met
now_noted met more new b d e f m = m ∙ sym (ap (λ c. cond c more met) (sym e ∙ f))

-- ---- entries, one after another

pub none_at : {X C : Type 0} (g : X → Option C) (xs : List X) → first_by g xs ≡ None → (i : ℕ) (x : X) → i < length xs → x ≡ get_or xs i x →
    g x ≡ None
none_at g [] e i x within is = let no : ⊥ = omega arith in absurd no
none_at g (y ∷ xs) e zero x within is = ap g is ∙ (none_or (g y) (first_by g xs) e).0
none_at g (y ∷ xs) e (suc i) x within is = none_at g xs (none_or (g y) (first_by g xs) e).1 i x (omega arith) is

pub none_found : {X C : Type 0} (v : X → C) (o : Option X) (b : Bool) (r : Option C) → option_map v o ≡ r → b ≡ is_some o → b ≡ false →
    r ≡ None
none_found v None b r e s f = sym e
none_found v (Some x) b r e s f = absurd (true≢false (sym s ∙ f))
