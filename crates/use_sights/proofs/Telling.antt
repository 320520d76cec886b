-- Sights tell which demands on calls fail: in a flow, in a context, and at a place of a program.
use Rattle.std.proofs.Common.{◌≡◌, ℕ, zero, suc, ◌<◌, Bool, true, false, ◌⊎◌, List, [], ◌∷◌, ◌++◌, length, Option, Some, None, refl, sym, ap}
use Rattle.std.proofs.Common.{◌∙◌, subst, arith, ⊎_elim, inl, inr, slice_get, Contains, flat_map}
use Rattle.std.specs.Prelude.{slice_index_or, nat_eq, ◌&&◌, cond, filter, ◌+◌}
use Rattle.std.proofs.lemmas.Bool.{eqb-true, eq-eqb}
use Rattle.mg_text.specs.declared.place.Place.{Place}
use Rattle.mg_sets.specs.Sets.{has}
use Rattle.jv_core.specs.declared.tree.Var.{Var}
use Rattle.jv_core.specs.declared.tree.CoreVar.{CoreVar}
use Rattle.jv_core.specs.Tree.{Method, Program}
use Rattle.jv_core.specs.Lookup.{text_at}
use Rattle.use_rules.specs.declared.key.Context.{Context}
use Rattle.use_rules.specs.declared.demand.Demand.{Demand}
use Rattle.use_rules.specs.declared.demand.DemandKind.{DemandKind}
use Rattle.use_rules.specs.declared.demand.DemandKind.TheVariants as demands
use Rattle.use_rules.specs.declared.element.Element.TheVariants as elements
use Rattle.use_rules.specs.Elements.{Set, element_at, if_moved, unless_called}
use Rattle.use_rules.specs.Keys.{Tables, typestate_of, contexts_in, method_in}
use Rattle.use_rules.specs.State.{Log, Sight, set_of}
use Rattle.use_rules.specs.Flow as rules
use Rattle.use_rules.specs.Tables.{quiet, flow_of, all_failed, all_sights}
use Rattle.use_rules.specs.inner.Order.{Mem}
use Rattle.use_rules.proofs.Members.{mem_left, mem_right, mem_cases, union_left, union_right, union_cases}
use Rattle.use_rules.proofs.Leaving.{contains_of}
use Rattle.use_rules.proofs.Laws.{grows}
use Rattle.use_sights.specs.Calls.{Use, Reads, Calls, uses_of_all, uses_from, all_uses}
use Rattle.use_sights.specs.Sights.{same_place, sights_at, together}
use Rattle.use_rules.specs.Laws.{Sees}
use Rattle.use_sights.specs.Laws.{Fails, AllCall, NoneReads, IsAsked, SightsTell, BeforeGrows}
use Rattle.use_sights.proofs.Judging.{IsLeft, IsOf, is_of, is_there, demand_of}
use Rattle.use_sights.proofs.Closing.{Keeps, whole_holds}

some_is : {A : Type 0} (x y : A) → Some x ≡ Some y → x ≡ y
some_is x y e = cc

none_some : {A : Type 0} (x : A) → None ≡ Some x → ⊥
none_some x e = cc

-- only calls ask this
abbrev IsOfCalls : DemandKind → Type 0
IsOfCalls demands.NotOffered = Unit {0}
IsOfCalls demands.MaybeNull = Unit {0}
IsOfCalls _ = ⊥

not_both : (k : DemandKind) → IsLeft k → IsOfCalls k → ⊥
not_both demands.UseMoved l a = a
not_both demands.MaybeNull l a = l
not_both demands.NotOffered l a = l
not_both demands.LeftOpen l a = a
not_both demands.Overwritten l a = a
not_both demands.FieldOpenAtEnd l a = a

moved_not_left : (k : DemandKind) → k ≡ demands.UseMoved → IsLeft k → ⊥
moved_not_left k e l = subst IsLeft e l

moved_not_of_calls : (k : DemandKind) → k ≡ demands.UseMoved → IsOfCalls k → ⊥
moved_not_of_calls k e a = subst IsOfCalls e a

read_kind : (e : ℕ) (k : DemandKind) → if_moved e ≡ Some k → k ≡ demands.UseMoved
read_kind zero k h = absurd (none_some k h)
read_kind (suc zero) k h = sym (some_is demands.UseMoved k h)
read_kind (suc (suc e)) k h = absurd (none_some k h)

-- such a demand is among these
record Failing (ds : List Demand) (kind : DemandKind) (place : Place) (e : ℕ) : Type 0 where
  demand : Demand
  there : Mem demand ds
  kind_is : demand.kind ≡ kind
  place_is : demand.place ≡ place
  element_is : demand.element ≡ element_at e

more : (ds es : List Demand) (kind : DemandKind) (q : Place) (e : ℕ) → Failing ds kind q e → Failing (ds ++ es) kind q e
more ds es kind q e f = record {
  demand = f.demand;
  there = mem_left f.demand ds es f.there;
  kind_is = f.kind_is;
  place_is = f.place_is;
  element_is = f.element_is;
}

module _ (p : Program) where
  abbrev asked_by : Method → ℕ → Option DemandKind
  asked_by k e = unless_called (typestate_of p k.class) (text_at p k.name) e

  -- a sight fails the demand
  record Comes (ss : List Sight) (d : Demand) : Type 0 where
    sight : Sight
    there : Mem sight ss
    called : Method
    at : slice_get p.methods sight.method ≡ Some called
    element : ℕ
    has_it : has sight.set element ≡ true
    fails : asked_by called element ≡ Some d.kind
    place_is : d.place ≡ sight.place
    element_is : d.element ≡ element_at element

  before_more : (ss ts : List Sight) (d : Demand) → Comes ss d → Comes (ss ++ ts) d
  before_more ss ts d c = record {
    sight = c.sight;
    there = mem_left c.sight ss ts c.there;
    called = c.called;
    at = c.at;
    element = c.element;
    has_it = c.has_it;
    fails = c.fails;
    place_is = c.place_is;
    element_is = c.element_is;
  }

  module _ (n : ℕ) (InBody : Use → Type 0) where
    abbrev site_of : Sight → Use
    site_of s = Calls (record { place = s.place; within = n; variable = s.variable; method = s.method })

    record Told (l : Log) : Type 0 where
      fails : (s : Sight) (k : Method) (kind : DemandKind) (e : ℕ) → Mem s l.sights → slice_get p.methods s.method ≡ Some k →
          has s.set e ≡ true → asked_by k e ≡ Some kind → Failing l.failed kind s.place e
      tells : (d : Demand) → Mem d l.failed → IsOfCalls d.kind → Comes l.sights d
      moved : (d : Demand) → Mem d l.failed → d.kind ≡ demands.UseMoved → Comes l.sights d ⊎ InBody (Reads d.place)
      sites : (s : Sight) → Mem s l.sights → InBody (site_of s)

    nothing_told : Told (record { outs = []; failed = []; sights = [] })
    nothing_told = record {
      fails = λ s k kind e i at m u. absurd i;
      tells = λ d i a. absurd i;
      moved = λ d i e. absurd i;
      sites = λ s i. absurd i;
    }

    module _ (cs : List Context) (c : Context) (m : Method) (t : Tables) where
      read_of : (q : Place) (x : Var) (sets : List Set) (d : Demand) → Mem d (rules.judged_variable p cs c m if_moved q x sets) →
          IsOf if_moved q (rules.variable_at p cs c m x) (rules.variable_text p cs c m x) (rules.variable_class p cs c m x)
          (set_of sets (rules.variable_at p cs c m x)) d
      read_of q x sets d j = is_of if_moved q _ _ _ (set_of sets (rules.variable_at p cs c m x)) d j

      module _ (x : CoreVar) (i : ℕ) (k : Method) (sets : List Set) (l : Log) (at : slice_get p.methods i ≡ Some k) where
        abbrev set_there : Set
        set_there = set_of sets (rules.variable_at p cs c m x.var)

        abbrev seen : Sight
        seen = record { place = x.place; variable = x.var; method = i; set = set_there }

        abbrev asked : List Demand
        asked = rules.judged_variable p cs c m (asked_by k) x.place x.var sets

        abbrev met : Log
        met = record { outs = l.outs; failed = l.failed ++ asked; sights = l.sights ++ seen ∷ [] }

        comes_here : (d : Demand) → Mem d asked → Comes (l.sights ++ seen ∷ []) d
        comes_here d j =
            let z = is_of (asked_by k) x.place _ _ _ set_there d j in
            record {
              sight = seen;
              there = mem_right seen l.sights (seen ∷ []) (inl refl);
              called = k;
              at = at;
              element = z.element;
              has_it = z.has_it;
              fails = z.fails;
              place_is = z.place_is;
              element_is = z.element_is;
            }

        fails_here : (k' : Method) (kind : DemandKind) (e : ℕ) → slice_get p.methods i ≡ Some k' → has set_there e ≡ true →
            asked_by k' e ≡ Some kind → Failing (l.failed ++ asked) kind x.place e
        fails_here k' kind e at' g u =
            let same : k' ≡ k = some_is k' k (sym at' ∙ at) in
            let d = demand_of (asked_by k) x.place (rules.variable_at p cs c m x.var) (rules.variable_text p cs c m x.var)
            (rules.variable_class p cs c m x.var) kind e in
            record {
              demand = d;
              there = mem_right d l.failed asked (is_there (asked_by k) x.place _ _ _ set_there e kind g
                  (ap (λ z. asked_by z e) (sym same) ∙ u));
              kind_is = refl;
              place_is = refl;
              element_is = refl;
            }

        abbrev FailsAs : Sight → Type 0
        FailsAs s = (k' : Method) (kind : DemandKind) (e : ℕ) → slice_get p.methods s.method ≡ Some k' → has s.set e ≡ true →
            asked_by k' e ≡ Some kind → Failing (l.failed ++ asked) kind s.place e

        called_told : InBody (Calls (record { place = x.place; within = n; variable = x.var; method = i })) → Told l → Told met
        called_told used h = record {
          fails = λ s k' kind e j at' g u. ⊎_elim
              (λ a. more l.failed asked kind s.place e (h.fails s k' kind e a at' g u))
              (λ b. ⊎_elim (λ z. subst FailsAs (sym z) fails_here k' kind e at' g u) absurd b)
              (mem_cases s l.sights (seen ∷ []) j);
          tells = λ d j o. ⊎_elim
              (λ a. before_more l.sights (seen ∷ []) d (h.tells d a o))
              (λ b. comes_here d b)
              (mem_cases d l.failed asked j);
          moved = λ d j e. ⊎_elim
              (λ a. ⊎_elim (λ y. inl (before_more l.sights (seen ∷ []) d y)) inr (h.moved d a e))
              (λ b. inl (comes_here d b))
              (mem_cases d l.failed asked j);
          sites = λ s j. ⊎_elim (h.sites s) (λ b. ⊎_elim (λ z. subst (λ s. InBody (site_of s)) (sym z) used) absurd b)
              (mem_cases s l.sights (seen ∷ []) j);
        }

      told_kept : Keeps p cs c m t n Told InBody
      told_kept = record {
        sent = λ os l h. record { fails = h.fails; tells = h.tells; moved = h.moved; sites = h.sites };
        left = λ ds l a h. record {
          fails = λ s k kind e i at g u. more l.failed ds kind s.place e (h.fails s k kind e i at g u);
          tells = λ d i o. ⊎_elim (λ j. h.tells d j o) (λ j. absurd (not_both d.kind (a.each d j) o)) (mem_cases d l.failed ds i);
          moved = λ d i e. ⊎_elim (λ j. h.moved d j e) (λ j. absurd (moved_not_left d.kind e (a.each d j))) (mem_cases d l.failed ds i);
          sites = h.sites;
        };
        read = λ q x sets l used h.
            let ds = rules.judged_variable p cs c m if_moved q x sets in
            record {
              fails = λ s k kind e i at g u. more l.failed ds kind s.place e (h.fails s k kind e i at g u);
              tells = λ d i o. ⊎_elim (λ j. h.tells d j o)
                  (λ j. let z = read_of q x sets d j in absurd (moved_not_of_calls d.kind (read_kind z.element d.kind z.fails) o))
                  (mem_cases d l.failed ds i);
              moved = λ d i e. ⊎_elim (λ j. h.moved d j e)
                  (λ j. let z = read_of q x sets d j in inr (subst (λ r. InBody (Reads r)) (sym z.place_is) used))
                  (mem_cases d l.failed ds i);
              sites = h.sites;
            };
        called = λ x i k sets l at used h. called_told x i k sets l at used h;
      }

-- Lists.

module _ {A : Type 0} where
  mem_at : (xs : List A) (x : A) (k : ℕ) → k < length xs → slice_index_or xs k x ≡ x → Mem x xs
  mem_at [] x k lt e = absurd (omega arith)
  mem_at (y ∷ xs) x zero lt e = inl (sym e)
  mem_at (y ∷ xs) x (suc k) lt e = inr (mem_at xs x k (omega arith) e)

  mem_of : (xs : List A) (x : A) → Contains xs x → Mem x xs
  mem_of xs x c = mem_at xs x c.0 c.1 c.2

  filtered : (b : Bool) (y x : A) (ys : List A) → Mem x (cond b (y ∷ ys) ys) → ((x ≡ y) × (b ≡ true)) ⊎ Mem x ys
  filtered true y x ys m = ⊎_elim (λ e. inl (e, refl)) inr m
  filtered false y x ys m = inr m

  filter_cases : (f : A → Bool) (xs : List A) (x : A) → Mem x (filter f xs) → Mem x xs × (f x ≡ true)
  filter_cases f [] x m = absurd m
  filter_cases f (y ∷ xs) x m = ⊎_elim
      (λ (e : (x ≡ y) × (f y ≡ true)). (inl e.0, ap f e.0 ∙ e.1))
      (λ r. let z = filter_cases f xs x r in (inr z.0, z.1))
      (filtered (f y) y x (filter f xs) m)

  kept_first : (b : Bool) (y : A) (ys : List A) → b ≡ true → Mem y (cond b (y ∷ ys) ys)
  kept_first true y ys e = inl refl
  kept_first false y ys e = absurd (cc)

  kept_later : (b : Bool) (y x : A) (ys : List A) → Mem x ys → Mem x (cond b (y ∷ ys) ys)
  kept_later true y x ys m = inr m
  kept_later false y x ys m = m

  in_filter : (f : A → Bool) (xs : List A) (x : A) → Mem x xs → f x ≡ true → Mem x (filter f xs)
  in_filter f [] x m e = absurd m
  in_filter f (y ∷ xs) x m e = ⊎_elim
      (λ i. subst (λ z. Mem z (cond (f y) (y ∷ filter f xs) (filter f xs))) (sym i)
      (kept_first (f y) y (filter f xs) (ap f (sym i) ∙ e)))
      (λ r. kept_later (f y) y x (filter f xs) (in_filter f xs x r e))
      m

record FromOne {A B : Type 0} (f : A → List B) (xs : List A) (b : B) : Type 0 where
  one : A
  there : Mem one xs
  gives : Mem b (f one)

flat_from : {A B : Type 0} (f : A → List B) (xs : List A) (b : B) → Mem b (flat_map f xs) → FromOne f xs b
flat_from f [] b m = absurd m
flat_from f (x ∷ xs) b m = ⊎_elim
    (λ l. record { one = x; there = inl refl; gives = l })
    (λ r. let z = flat_from f xs b r in record { one = z.one; there = inr z.there; gives = z.gives })
    (mem_cases b (f x) (flat_map f xs) m)

in_flat : {A B : Type 0} (f : A → List B) (xs : List A) (x : A) (b : B) → Mem x xs → Mem b (f x) → Mem b (flat_map f xs)
in_flat f [] x b m k = absurd m
in_flat f (y ∷ xs) x b m k = ⊎_elim
    (λ e. mem_left b (f y) (flat_map f xs) (subst (λ y. Mem b (f y)) e k))
    (λ i. mem_right b (f y) (flat_map f xs) (in_flat f xs x b i k)) m

-- Places and elements.

both : (a b : Bool) → (a && b) ≡ true → (a ≡ true) × (b ≡ true)
both true b h = (refl, h)
both false b h = absurd (cc)

pub place_is : (q r : Place) → same_place q r ≡ true → q ≡ r
place_is q r h =
    let a = both (nat_eq q.file r.file) (nat_eq q.line r.line && nat_eq q.column r.column) h in
    let b = both (nat_eq q.line r.line) (nat_eq q.column r.column) a.1 in
    ap (λ f. record { file = f; line = q.line; column = q.column }) (eqb-true q.file r.file a.0)
    ∙ ap (λ l. record { file = r.file; line = l; column = q.column }) (eqb-true q.line r.line b.0)
    ∙ ap (λ c. record { file = r.file; line = r.line; column = c }) (eqb-true q.column r.column b.1)

all_true : (a b c : Bool) → a ≡ true → b ≡ true → c ≡ true → (a && (b && c)) ≡ true
all_true true true c e f g = g
all_true true false c e f g = absurd (cc)
all_true false b c e f g = absurd (cc)

pub same_itself : (q : Place) → same_place q q ≡ true
same_itself q = all_true (nat_eq q.file q.file) (nat_eq q.line q.line) (nat_eq q.column q.column) (eq-eqb q.file q.file refl)
    (eq-eqb q.line q.line refl) (eq-eqb q.column q.column refl)

state_is : (q r : ℕ) → elements.State q ≡ elements.State r → q ≡ r
state_is q r e = cc

element_one : (e f : ℕ) → element_at e ≡ element_at f → e ≡ f
element_one zero zero h = refl
element_one zero (suc zero) h = absurd (cc)
element_one zero (suc (suc zero)) h = absurd (cc)
element_one zero (suc (suc (suc r))) h = absurd (cc)
element_one (suc zero) zero h = absurd (cc)
element_one (suc zero) (suc zero) h = refl
element_one (suc zero) (suc (suc zero)) h = absurd (cc)
element_one (suc zero) (suc (suc (suc r))) h = absurd (cc)
element_one (suc (suc zero)) zero h = absurd (cc)
element_one (suc (suc zero)) (suc zero) h = absurd (cc)
element_one (suc (suc zero)) (suc (suc zero)) h = refl
element_one (suc (suc zero)) (suc (suc (suc r))) h = absurd (cc)
element_one (suc (suc (suc q))) zero h = absurd (cc)
element_one (suc (suc (suc q))) (suc zero) h = absurd (cc)
element_one (suc (suc (suc q))) (suc (suc zero)) h = absurd (cc)
element_one (suc (suc (suc q))) (suc (suc (suc r))) h = ap (λ n. suc (suc (suc n))) (state_is q r h)

-- an element of one of these sights
record HasOne (ss : List Sight) (e : ℕ) : Type 0 where
  sight : Sight
  there : Mem sight ss
  has_it : has sight.set e ≡ true

together_from : (ss : List Sight) (e : ℕ) → has (together ss) e ≡ true → HasOne ss e
together_from [] e h = absurd (cc)
together_from (s ∷ ss) e h = ⊎_elim
    (λ a. record { sight = s; there = inl refl; has_it = a })
    (λ b. let z = together_from ss e b in record { sight = z.sight; there = inr z.there; has_it = z.has_it })
    (union_cases s.set (together ss) e h)

in_together : (ss : List Sight) (s : Sight) (e : ℕ) → Mem s ss → has s.set e ≡ true → has (together ss) e ≡ true
in_together [] s e m h = absurd m
in_together (y ∷ ss) s e m h = ⊎_elim
    (λ i. union_left y.set (together ss) e (subst (λ (z : Sight). has z.set e ≡ true) i h))
    (λ r. union_right y.set (together ss) e (in_together ss s e r h))
    m

-- Programs.

module _ (p : Program) (reached : List (List Bool)) (t : Tables) where
  abbrev InProgram : Use → Type 0
  InProgram u = Mem u (all_uses p)

  of_method : (i n : ℕ) (ms : List Method) (m : Method) → slice_get ms n ≡ Some m → (u : Use) → Mem u (uses_of_all (i + n) m.body) →
      Mem u (uses_from i ms)
  of_method i n [] m e u h = absurd (none_some m e)
  of_method i zero (x ∷ ms) m e u h =
      mem_left u (uses_of_all i x.body) (uses_from (suc i) ms)
      (subst (λ k. Mem u (uses_of_all k x.body)) (nothing i)
      (subst (λ (z : Method). Mem u (uses_of_all (i + 0) z.body)) (sym (some_is x m e)) h))
    where
      nothing : (i : ℕ) → i + 0 ≡ i
      nothing i = omega arith
  of_method i (suc n) (x ∷ ms) m e u h =
      mem_right u (uses_of_all i x.body) (uses_from (suc i) ms)
      (of_method (suc i) n ms m e u (subst (λ k. Mem u (uses_of_all k m.body)) (moved i n) h))
    where
      moved : (i n : ℕ) → i + suc n ≡ suc i + n
      moved i n = omega arith

  abbrev flow_by : Context → Option Method → Log
  flow_by c o = elim o as (λ _. Log) [ None ↦ quiet | Some m ↦ rules.whole p (contexts_in p reached) c m t ]

  told_by : (c : Context) (o : Option Method) → slice_get p.methods (method_in c) ≡ o → Told p (method_in c) InProgram (flow_by c o)
  told_by c None e = nothing_told p (method_in c) InProgram
  told_by c (Some m) e =
      whole_holds p (contexts_in p reached) c m t (method_in c) (Told p (method_in c) InProgram) InProgram
      (told_kept p (method_in c) InProgram (contexts_in p reached) c m t)
      (λ u i. of_method 0 (method_in c) p.methods m e u (subst (λ k. Mem u (uses_of_all k m.body)) (nothing (method_in c)) i))
      (nothing_told p (method_in c) InProgram)
    where
      nothing : (n : ℕ) → n ≡ 0 + n
      nothing n = omega arith

  told : (c : Context) → Told p (method_in c) InProgram (flow_of p reached t c)
  told c = told_by c (slice_get p.methods (method_in c)) refl

  module _ (place : Place) (k : Method) (calls : AllCall p place k) where
    -- what is seen there is a call of the method
    one_method : (c : Context) (s : Sight) → Mem s (flow_of p reached t c).sights → s.place ≡ place → slice_get p.methods s.method ≡ Some k
    one_method c s i e =
        calls.each (record { place = s.place; within = method_in c; variable = s.variable; method = s.method })
        (contains_of (all_uses p) _ ((told c).sites s i)) e

    fails_there : (kind : DemandKind) (e : ℕ) → IsAsked p reached t place k kind e → Fails (all_failed p reached t) kind place e
    fails_there kind e a =
        let z = together_from (sights_at place (all_sights p reached t)) e a.has_it in
        let f = filter_cases (λ (s : Sight). same_place place s.place) (all_sights p reached t) z.sight z.there in
        let o = flat_from (λ c. (flow_of p reached t c).sights) (contexts_in p reached) z.sight f.0 in
        let here : z.sight.place ≡ place = sym (place_is place z.sight.place f.1) in
        let g = (told o.one).fails z.sight k kind e o.gives (one_method o.one z.sight o.gives here) z.has_it a.fails in
        record {
          demand = g.demand;
          there = contains_of (all_failed p reached t) g.demand
              (in_flat (λ c. (flow_of p reached t c).failed) (contexts_in p reached) o.one g.demand o.there g.there);
          kind_is = g.kind_is;
          place_is = g.place_is ∙ here;
          element_is = g.element_is;
        }

    -- from a sight of a context
    asked_by_sight : (kind : DemandKind) (e : ℕ) (c : Context) (d : Demand) → Mem c (contexts_in p reached) →
        Comes p (flow_of p reached t c).sights d → d.kind ≡ kind → d.place ≡ place → d.element ≡ element_at e →
        IsAsked p reached t place k kind e
    asked_by_sight kind e c d there o kind_is at_place element_is =
        let here : o.sight.place ≡ place = sym o.place_is ∙ at_place in
        let same : o.called ≡ k = some_is o.called k (sym o.at ∙ one_method c o.sight o.there here) in
        let element : o.element ≡ e = element_one o.element e (sym o.element_is ∙ element_is) in
        record {
          has_it = in_together (sights_at place (all_sights p reached t)) o.sight e
              (in_filter (λ (s : Sight). same_place place s.place) (all_sights p reached t) o.sight
              (in_flat (λ c. (flow_of p reached t c).sights) (contexts_in p reached) c o.sight there o.there)
              (ap (same_place place) here ∙ same_itself place))
              (subst (λ n. has o.sight.set n ≡ true) element o.has_it);
          fails = subst (λ n. asked_by p k n ≡ Some kind) element
              (subst (λ (z : Method). asked_by p z o.element ≡ Some kind) same (o.fails ∙ ap (λ z. Some z) kind_is));
        }

    asked_there : (kind : DemandKind) (e : ℕ) → IsOfCalls kind → Fails (all_failed p reached t) kind place e →
        IsAsked p reached t place k kind e
    asked_there kind e of f =
        let o = flat_from (λ c. (flow_of p reached t c).failed) (contexts_in p reached) f.demand
        (mem_of (all_failed p reached t) f.demand f.there) in
        asked_by_sight kind e o.one f.demand o.there
        ((told o.one).tells f.demand o.gives (subst IsOfCalls (sym f.kind_is) of)) f.kind_is f.place_is f.element_is

    moved_there : NoneReads p place → (e : ℕ) → Fails (all_failed p reached t) demands.UseMoved place e →
        IsAsked p reached t place k demands.UseMoved e
    moved_there unread e f =
        let o = flat_from (λ c. (flow_of p reached t c).failed) (contexts_in p reached) f.demand
        (mem_of (all_failed p reached t) f.demand f.there) in
        ⊎_elim
        (λ s. asked_by_sight demands.UseMoved e o.one f.demand o.there s f.kind_is f.place_is f.element_is)
        (λ r. absurd (unread.none (contains_of (all_uses p) (Reads place) (subst (λ q. Mem (Reads q) (all_uses p)) f.place_is r))))
        ((told o.one).moved f.demand o.gives f.kind_is)

pub sights_tell : SightsTell
sights_tell p reached t place k calls = record {
  fails = fails_there p reached t place k calls;
  not_offered = λ e f. asked_there p reached t place k calls demands.NotOffered e tt f;
  may_be_null = λ e f. asked_there p reached t place k calls demands.MaybeNull e tt f;
  moved = moved_there p reached t place k calls;
}

pub before_grows : BeforeGrows
before_grows p reached t u larger place = record {
  within = λ e h.
      let z = together_from (sights_at place (all_sights p reached t)) e h in
      let f = filter_cases (λ (s : Sight). same_place place s.place) (all_sights p reached t) z.sight z.there in
      let seen : Sees (all_sights p reached t) z.sight.place z.sight.variable z.sight.method e = record {
        sight = z.sight;
        there = contains_of (all_sights p reached t) z.sight f.0;
        stands = refl;
        of = refl;
        calls = refl;
        member = z.has_it;
      } in
      let more = (grows.all p reached t u larger).sights z.sight.place z.sight.variable z.sight.method e seen in
      in_together (sights_at place (all_sights p reached u)) more.sight e
      (in_filter (λ (s : Sight). same_place place s.place) (all_sights p reached u) more.sight
      (mem_of (all_sights p reached u) more.sight more.there) (ap (same_place place) more.stands ∙ f.1))
      more.member;
}
