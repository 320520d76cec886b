-- No two contexts of a program are equal, so their numbers are their places.
use Rattle.std.proofs.Common.{◌≡◌, ℕ, suc, ◌+◌, ◌<◌, ◌≤◌, Bool, true, false, cond, ◌&&◌, ◌||◌, List, [], ◌∷◌, ◌++◌, length, get_or, drop}
use Rattle.std.proofs.Common.{Option, Some, None, slice_get, is_some, refl, sym, ap, ◌∙◌, subst, arith, append_assoc}
use Rattle.std.specs.Prelude.{nat_eq}
use Rattle.std.specs.List.{AllByRecursion, list_any}
use Rattle.std.proofs.lemmas.Bool.{false≢true, eqb-true}
use Rattle.std.proofs.lemmas.List.{at_drop_more, at_drop_all}
use Rattle.indexmap.specs.IndexSet.{insert_key}
use Rattle.mg_text.specs.Call.{Name}
use Rattle.mg_sets.specs.Sets.{members, members_from}
use Rattle.ts_tree.specs.Typestate.{Typestate}
use Rattle.ts_tree.specs.Calls.{offered}
use Rattle.jv_core.specs.declared.program.MethodKind.{MethodKind}
use Rattle.jv_core.specs.declared.program.MethodKind.TheVariants as kinds
use Rattle.jv_core.specs.Lookup.{text_at}
use Rattle.jv_core.specs.Tree.{Class, Method, Program}
use Rattle.use_rules.specs.declared.key.Context.{Context}
use Rattle.use_rules.specs.declared.key.Context.TheVariants as contexts
use Rattle.use_rules.specs.Keys.{contexts_from, contexts_in, contexts_of, in_states, method_in, offering_states, reached_states}
use Rattle.use_rules.specs.Keys.{same_context, typestate_of}
use Rattle.use_flow.specs.inner.Holding.{AreApart}
use Rattle.use_flow.proofs.Keyed.{context_eq}
use Rattle.use_flow.proofs.Listing.{every_append}
use Rattle.use_elements.proofs.Rests.{append_nil}

both : (a b : Bool) → (a && b) ≡ true → (a ≡ true) × (b ≡ true)
both true b h = (refl, h)
both false b h = absurd (false≢true h)

same_method : (x y : Context) → same_context x y ≡ true → method_in x ≡ method_in y
same_method (contexts.Plain m) (contexts.Plain n) h = eqb-true m n h
same_method (contexts.Protocol c q m) (contexts.Protocol d r n) h =
    eqb-true m n (both (nat_eq q r) (nat_eq m n) (both (nat_eq c d) (nat_eq q r && nat_eq m n) h).1).1
same_method _ _ h = absurd (false≢true h)

unless_true : (b : Bool) → (b ≡ true → ⊥) → b ≡ false
unless_true true h = absurd (h refl)
unless_true false h = refl

-- Parts that are apart.

apart_append : (xs ys : List Context) → AreApart xs → AreApart ys → AllByRecursion (λ x. AllByRecursion (λ y. same_context y x ≡ false) ys)
    xs → AreApart (xs ++ ys)
apart_append [] ys a b h = b
apart_append (x ∷ xs) ys a b h = (every_append (λ y. same_context y x ≡ false) xs ys a.0 h.0, apart_append xs ys a.1 b h.1)

abbrev AreOf : ℕ → List Context → Type 0
AreOf n xs = AllByRecursion (λ x. method_in x ≡ n) xs

abbrev AreFrom : ℕ → List Context → Type 0
AreFrom n xs = AllByRecursion (λ x. n ≤ method_in x) xs

crossed_one : (n : ℕ) (x : Context) → method_in x ≡ n → (ys : List Context) → AreFrom (suc n) ys →
    AllByRecursion (λ y. same_context y x ≡ false) ys
crossed_one n x h [] a = tt
crossed_one n x h (y ∷ ys) a =
    let le : suc n ≤ method_in y = a.0 in
    (unless_true (same_context y x) (λ e. let s = same_method y x e in omega (arith, s, h, le)), crossed_one n x h ys a.1)

crossed : (n : ℕ) (xs ys : List Context) → AreOf n xs → AreFrom (suc n) ys →
    AllByRecursion (λ x. AllByRecursion (λ y. same_context y x ≡ false) ys) xs
crossed n [] ys a b = tt
crossed n (x ∷ xs) ys a b = (crossed_one n x a.0 ys b, crossed n xs ys a.1 b)

from_less : (n : ℕ) (xs : List Context) → AreFrom (suc n) xs → AreFrom n xs
from_less n [] a = tt
from_less n (x ∷ xs) a = let le : suc n ≤ method_in x = a.0 in (omega (arith, le), from_less n xs a.1)

from_of : (n : ℕ) (xs : List Context) → AreOf n xs → AreFrom n xs
from_of n [] a = tt
from_of n (x ∷ xs) a = let e : method_in x ≡ n = a.0 in (omega (arith, e), from_of n xs a.1)

-- States in rising order.

abbrev Rising : ℕ → List ℕ → Type 0
Rising k [] = Unit {0}
Rising k (x ∷ xs) = (k ≤ x) × Rising (suc x) xs

rising_less : (j k : ℕ) (xs : List ℕ) → j ≤ k → Rising k xs → Rising j xs
rising_less j k [] le r = tt
rising_less j k (x ∷ xs) le r = let h : k ≤ x = r.0 in (omega (arith, le, h), r.1)

members_rise : (k : ℕ) (s : List Bool) → Rising k (members_from k s)
members_rise k [] = tt
members_rise k (true ∷ s) = (omega arith, members_rise (suc k) s)
members_rise k (false ∷ s) = rising_less k (suc k) (members_from (suc k) s) (omega arith) (members_rise (suc k) s)

picked : (b : Bool) (k q : ℕ) (rest : List ℕ) → k ≤ q → Rising (suc q) rest → Rising k (cond b (q ∷ rest) rest)
picked true k q rest le r = (le, r)
picked false k q rest le r = rising_less k (suc q) rest (omega (arith, le)) r

offering_rise : (t : Typestate) (name : Name) (k : ℕ) (qs : List ℕ) → Rising k qs → Rising k (offering_states t qs name)
offering_rise t name k [] r = tt
offering_rise t name k (q ∷ qs) r = picked (is_some (offered t q name)) k q (offering_states t qs name) r.0
    (offering_rise t name (suc q) qs r.1)

state_apart : (c n q r : ℕ) → q < r → same_context (contexts.Protocol c r n) (contexts.Protocol c q n) ≡ false
state_apart c n q r lt = unless_true (same_context (contexts.Protocol c r n) (contexts.Protocol c q n)) (λ e.
    let same = eqb-true r q (both (nat_eq r q) (nat_eq n n) (both (nat_eq c c) (nat_eq r q && nat_eq n n) e).1).0 in omega
    (arith, same, lt))

later_apart : (c n q k : ℕ) (qs : List ℕ) → q < k → Rising k qs → AllByRecursion (λ y. same_context y (contexts.Protocol c q n) ≡ false)
    (in_states c n qs)
later_apart c n q k [] lt r = tt
later_apart c n q k (s ∷ qs) lt r = let le : k ≤ s = r.0 in (
  state_apart c n q s (omega (arith, le, lt)),
  later_apart c n q (suc s) qs
      (omega (arith, le, lt)) r.1,
)

states_apart : (c n k : ℕ) (qs : List ℕ) → Rising k qs → AreApart (in_states c n qs)
states_apart c n k [] r = tt
states_apart c n k (q ∷ qs) r = (later_apart c n q (suc q) qs (omega arith) r.1, states_apart c n (suc q) qs r.1)

states_of : (c n : ℕ) (qs : List ℕ) → AreOf n (in_states c n qs)
states_of c n [] = tt
states_of c n (q ∷ qs) = (refl, states_of c n qs)

module _ (p : Program) (reached : List (List Bool)) where
  reached_rise : (c : ℕ) → Rising 0 (reached_states p reached c)
  reached_rise c = go (slice_get p.classes c)
    where
      of : (o : Option ℕ) → Rising 0 (elim o as (λ _. List ℕ) [ None ↦ [] | Some n ↦ members (get_or reached n []) ])
      of None = tt
      of (Some n) = members_rise 0 (get_or reached n [])

      go : (o : Option Class) → Rising 0 (elim o as (λ _. List ℕ) [
        | None ↦ []
        | Some k ↦ elim k.typestate as (λ _. List ℕ) [ None ↦ [] | Some n ↦ members (get_or reached n []) ]
      ])
      go None = tt
      go (Some k) = of k.typestate

  abbrev offering : Method → List ℕ
  offering m = offering_states (typestate_of p m.class) (reached_states p reached m.class) (text_at p m.name)

  method_apart : (n : ℕ) (m : Method) → AreApart (contexts_of p reached n m)
  method_apart n m = go m.kind
    where
      go : (k : MethodKind) → AreApart (elim k as (λ _. List Context) [
        | kinds.Protocol ↦ in_states m.class n (offering m)
        | _ ↦ contexts.Plain n ∷ []
      ])
      go kinds.Main = (tt, tt)
      go kinds.Static = (tt, tt)
      go kinds.Helper = (tt, tt)
      go kinds.Protocol = states_apart m.class n 0 (offering m)
          (offering_rise (typestate_of p m.class) (text_at p m.name) 0 (reached_states p reached m.class) (reached_rise m.class))

  method_of : (n : ℕ) (m : Method) → AreOf n (contexts_of p reached n m)
  method_of n m = go m.kind
    where
      go : (k : MethodKind) → AreOf n (elim k as (λ _. List Context) [
        | kinds.Protocol ↦ in_states m.class n (offering m)
        | _ ↦ contexts.Plain n ∷ []
      ])
      go kinds.Main = (refl, tt)
      go kinds.Static = (refl, tt)
      go kinds.Helper = (refl, tt)
      go kinds.Protocol = states_of m.class n (offering m)

  from_number : (n : ℕ) (ms : List Method) → AreFrom n (contexts_from p reached n ms)
  from_number n [] = tt
  from_number n (m ∷ ms) = every_append (λ x. n ≤ method_in x) (contexts_of p reached n m) (contexts_from p reached (suc n) ms)
      (from_of n (contexts_of p reached n m) (method_of n m)) (from_less n (contexts_from p reached (suc n) ms) (from_number (suc n) ms))

  methods_apart : (n : ℕ) (ms : List Method) → AreApart (contexts_from p reached n ms)
  methods_apart n [] = tt
  methods_apart n (m ∷ ms) = apart_append (contexts_of p reached n m) (contexts_from p reached (suc n) ms) (method_apart n m)
      (methods_apart (suc n) ms)
      (crossed n (contexts_of p reached n m) (contexts_from p reached (suc n) ms) (method_of n m) (from_number (suc n) ms))

  pub contexts_apart : AreApart (contexts_in p reached)
  contexts_apart = methods_apart 0 p.methods

-- Contexts that are inserted one after the other.

every_middle : {A : Type 0} (P : A → Type 0) (xs ys : List A) (y : A) → AllByRecursion P (xs ++ y ∷ ys) → P y
every_middle P [] ys y a = a.0
every_middle P (x ∷ xs) ys y a = every_middle P xs ys y a.1

same_eq : (x y : Context) → context_eq x y ≡ same_context x y
same_eq (contexts.Plain m) (contexts.Plain n) = refl
same_eq (contexts.Protocol c q m) (contexts.Protocol d r n) = refl
same_eq _ _ = refl

not_among : (ks rest : List Context) (x : Context) → AreApart (ks ++ x ∷ rest) → list_any (context_eq x) ks ≡ false
not_among [] rest x a = refl
not_among (k ∷ ks) rest x a =
    ap (λ b. b || list_any (context_eq x) ks) (same_eq x k ∙ every_middle (λ y. same_context y k ≡ false) ks rest x a.0) ∙ not_among ks rest
    x a.1

pub inserted : (cs : List Context) (i : ℕ) (d : Context) (ks ks' : List Context) → i < length cs →
    ks' ≡ insert_key context_eq ks (get_or cs i d) →
    (AreApart cs → ks ++ drop i cs ≡ cs) → AreApart cs → ks' ++ drop (i + 1) cs ≡ cs
inserted cs i d ks ks' lt e h a =
    let x = get_or cs i d in
    let rest : drop i cs ≡ x ∷ drop (i + 1) cs = at_drop_more (λ (xs : List Context). xs) cs i d lt in
    let whole : ks ++ x ∷ drop (i + 1) cs ≡ cs = ap (λ r. ks ++ r) (sym rest) ∙ h a in
    let new : list_any (context_eq x) ks ≡ false = not_among ks (drop (i + 1) cs) x (subst AreApart (sym whole) a) in
    ap (λ r. r ++ drop (i + 1) cs) (e ∙ ap (λ b. cond b ks (ks ++ x ∷ [])) new) ∙ append_assoc ks (x ∷ []) (drop (i + 1) cs) ∙ whole

pub all_inserted : (cs : List Context) (i : ℕ) (ks : List Context) → length cs ≤ i → (AreApart cs → ks ++ drop i cs ≡ cs) → AreApart cs →
    ks ≡ cs
all_inserted cs i ks le h a = sym (ap (λ r. ks ++ r) (at_drop_all (λ (xs : List Context). xs) cs i le) ∙ append_nil ks) ∙ h a

pub none_inserted : (cs ks : List Context) → ks ≡ [] → AreApart cs → ks ++ cs ≡ cs
none_inserted cs ks e a = ap (λ r. r ++ cs) e

pub ruleset inserting = (all_inserted, none_inserted)
