-- The keys of the tables that a context reads are those that the rules ask for.
use Rattle.std.proofs.Common.{◌≡◌, ℕ, zero, suc, ◌+◌, ◌-◌, Bool, true, false, List, [], ◌∷◌, ◌++◌, length, map, Option, Some, None}
use Rattle.std.proofs.Common.{slice_get, nat_eq, refl, sym, ap, ◌∙◌, arith, if◌then◌else◌, add-one, append_assoc, ◌&&◌}
use Rattle.std.specs.Prelude.{slice_index_or, option_map, option_and_then}
use Rattle.std.specs.List.{list_any, flat_map}
use Rattle.std.proofs.lemmas.List.{map-append}
use Rattle.jv_core.specs.declared.program.CoreType.{CoreType}
use Rattle.jv_core.specs.declared.program.MethodKind.{MethodKind}
use Rattle.jv_core.specs.declared.program.MethodKind.TheVariants as kinds
use Rattle.jv_core.specs.Tree.{Field, Loop, Method, Program, Slot}
use Rattle.jv_core.specs.Lookup.{param_types, slot_type, text_at}
use Rattle.use_rules.specs.declared.key.Context.{Context}
use Rattle.use_rules.specs.declared.key.Context.TheVariants as contexts
use Rattle.use_rules.specs.declared.key.TableKey.{TableKey}
use Rattle.use_rules.specs.declared.key.TableKey.TheVariants as keys
use Rattle.use_rules.specs.Keys.{class_in, contexts_in, contexts_from, contexts_of, in_states, method_in, number_of, offering_states}
use Rattle.use_rules.specs.Keys.{reached_states, typestate_of}
use Rattle.use_rules.specs.Reads.{asked, enter_keys, field_keys, fields_in, key_if, leave_keys, loop_keys, named_in_all, param_keys, reads}
use Rattle.use_rules.specs.Reads.{result_class, result_keys, slot_keys, state_keys}
use Rattle.use_rules.specs.Shapes.{is_helper, is_instance}
use Rattle.use_flow.specs.declared.classed.Entry.{Entry}
use Rattle.use_flow.specs.declared.held.Tables as held
use Rattle.use_flow.specs.Read.{AreRead}
use Rattle.use_flow.specs.Runs.{starts_from, starts_in}
use Rattle.use_flow.specs.View as view
use Rattle.use_flow.specs.View.{AreFor, reached_of}
use Rattle.use_flow.specs.inner.Listing.{listed_from, entry_if, field_entries, field_entry, fields_of, head_entries, head_key}
use Rattle.use_flow.specs.inner.Listing.{param_entries, param_entry, scope_entries, slot_entry}
use Rattle.use_flow.specs.inner.Reading.{class_run, enter_entries, leave_entries, leave_entry, leave_of, loop_entries, loop_entry}
use Rattle.use_flow.specs.inner.Reading.{read_entries, result_entries, result_entry, rising, run_entries, state_entries}
use Rattle.use_flow.proofs.Ascending.{chosen, chosen-rising, Stands}

abbrev pub keys_in : List Entry → List TableKey
keys_in es = map (λ e. e.key) es

joined : (a b : List Entry) (x y : List TableKey) → keys_in a ≡ x → keys_in b ≡ y → keys_in (a ++ b) ≡ x ++ y
joined a b x y e f = map-append (λ (z : Entry). z.key) a b ∙ ap (λ r. r ++ keys_in b) e ∙ ap (λ r. x ++ r) f

if-keys : (key : TableKey) (o : Option ℕ) → keys_in (entry_if key o) ≡ key_if key o
if-keys key None = refl
if-keys key (Some c) = refl

fields-from : (to : ℕ → TableKey) (i : ℕ) (ds : List Field) → keys_in (listed_from (field_entry to) i ds) ≡ field_keys to i ds
fields-from to i [] = refl
fields-from to i (d ∷ ds) =
    joined (entry_if (to i) (class_in d.ty)) (listed_from (field_entry to) (suc i) ds) (key_if (to i) (class_in d.ty))
    (field_keys to (suc i) ds)
    (if-keys (to i) (class_in d.ty)) (fields-from to (suc i) ds)

own-fields : (p : Program) (c : ℕ) (to : ℕ → TableKey) → keys_in (field_entries to (fields_of p c)) ≡ field_keys to 0 (fields_in p c)
own-fields p c to = fields-from to 0 (fields_of p c)

params-from : (c i : ℕ) (tys : List CoreType) → keys_in (listed_from (param_entry c) i tys) ≡ param_keys c i tys
params-from c i [] = refl
params-from c i (ty ∷ tys) =
    joined (entry_if (keys.Param c i) (class_in ty)) (listed_from (param_entry c) (suc i) tys) (key_if (keys.Param c i) (class_in ty))
    (param_keys c (suc i) tys)
    (if-keys (keys.Param c i) (class_in ty)) (params-from c (suc i) tys)

-- what stands for each number, whatever its place
each-number : (h : ℕ → ℕ → List Entry) (f : ℕ → List TableKey) → ((i k : ℕ) → keys_in (h i k) ≡ f k) → (i : ℕ) (ns : List ℕ) →
    keys_in (listed_from h i ns) ≡ flat_map f ns
each-number h f e i [] = refl
each-number h f e i (n ∷ ns) = joined (h i n) (listed_from h (suc i) ns) (f n) (flat_map f ns) (e i n) (each-number h f e (suc i) ns)

-- Slots in scope.
module _ (m : Method) (c l : ℕ) (scope : List ℕ) where
  abbrev slot-key : ℕ → Slot → List TableKey
  slot-key k s = key_if (keys.Loop c l k) (class_in s.ty)

  abbrev slot-at : ℕ → List TableKey
  slot-at k = key_if (keys.Loop c l k) (option_and_then class_in (slot_type m k))

  slots-chosen : (k : ℕ) (ss : List Slot) → slot_keys c l scope k ss ≡ chosen slot-key scope k ss
  slots-chosen k [] = refl
  slots-chosen k (s ∷ ss) = ap (λ r. (if list_any (nat_eq k) scope then key_if (keys.Loop c l k) (class_in s.ty) else []) ++ r)
      (slots-chosen (suc k) ss)

  slot-found : (k : ℕ) (o : Option Slot) →
      key_if (keys.Loop c l k) (option_and_then class_in (option_map (λ s. s.ty) o)) ≡ elim o as (λ _. List TableKey)
      [ None ↦ [] | Some s ↦ slot-key k s ]
  slot-found k None = refl
  slot-found k (Some s) = refl

  slots-stand : Stands slot-key slot-at 0 m.slots
  slots-stand = record {
    each = λ j k e.
        let same : k ≡ j = omega (arith, e) in
        slot-found k (slice_get m.slots k) ∙
        ap (λ i. elim (slice_get m.slots i) as (λ _. List TableKey) [ None ↦ [] | Some s ↦ slot-key k s ]) same;
  }

  scope-keys : keys_in (scope_entries m c l (rising scope)) ≡ slot_keys c l scope 0 m.slots
  scope-keys =
      each-number (slot_entry m c l) slot-at (λ i k. if-keys (keys.Loop c l k) (option_and_then class_in (slot_type m k))) 0 (rising scope)
      ∙ sym (slots-chosen 0 m.slots ∙ chosen-rising slot-key slot-at scope m.slots slots-stand)

-- Heads of loops.
module _ (p : Program) (c : ℕ) (m : Method) where
  head-keys : (l : ℕ) → keys_in (head_entries p c m l) ≡ (if is_instance m then field_keys (λ f. keys.Loop c l (length m.slots + f)) 0
      (fields_in p m.class) else [])
  head-keys l = go m.kind
    where
      go : (k : MethodKind) →
          keys_in (elim k as (λ _. List Entry) [
            | kinds.Protocol ↦ field_entries (head_key m c l) (fields_of p m.class)
            | kinds.Helper ↦
                field_entries (head_key m c l) (fields_of p m.class)
            | _ ↦ []
          ])
          ≡ (if elim k as (λ _. Bool) [ kinds.Protocol ↦ true | kinds.Helper ↦ true | _ ↦ false ] then field_keys
          (λ f. keys.Loop c l (length m.slots + f)) 0 (fields_in p m.class) else [])
      go kinds.Protocol = own-fields p m.class (head_key m c l)
      go kinds.Helper = own-fields p m.class (head_key m c l)
      go kinds.Main = refl
      go kinds.Static = refl

  loops-from : (l : ℕ) (ls : List Loop) → keys_in (listed_from (loop_entry p c m) l ls) ≡ loop_keys p c m l ls
  loops-from l [] = refl
  loops-from l (x ∷ xs) =
      let heads = if is_instance m then field_keys (λ f. keys.Loop c l (length m.slots + f)) 0 (fields_in p m.class) else [] in
      joined (loop_entry p c m l x) (listed_from (loop_entry p c m) (suc l) xs) (slot_keys c l x.scope 0 m.slots ++ heads)
      (loop_keys p c m (suc l) xs)
      (joined (scope_entries m c l (rising x.scope)) (head_entries p c m l) (slot_keys c l x.scope 0 m.slots) heads
      (scope-keys m c l x.scope) (head-keys l))
      (loops-from (suc l) xs)

-- Fields as helpers leave them.
module _ (p : Program) (ns : List ℕ) where
  abbrev leave-key : ℕ → Method → List TableKey
  leave-key n m = if is_helper m then field_keys (keys.Leave n) 0 (fields_in p m.class) else []

  abbrev leave-at : ℕ → List TableKey
  leave-at n = elim (slice_get p.methods n) as (λ _. List TableKey) [ None ↦ [] | Some m ↦ leave-key n m ]

  and-if : (a b : Bool) (x : List TableKey) → (if a && b then x else []) ≡ (if b then (if a then x else []) else [])
  and-if true b x = refl
  and-if false true x = refl
  and-if false false x = refl

  leaves-chosen : (n : ℕ) (ms : List Method) → leave_keys p ns n ms ≡ chosen leave-key ns n ms
  leaves-chosen n [] = refl
  leaves-chosen n (m ∷ ms) =
      ap (λ r. r ++ leave_keys p ns (suc n) ms)
      (and-if (is_helper m) (list_any (nat_eq n) ns) (field_keys (keys.Leave n) 0 (fields_in p m.class)))
      ∙ ap (λ r. (if list_any (nat_eq n) ns then leave-key n m else []) ++ r) (leaves-chosen (suc n) ms)

  leaves-stand : Stands leave-key leave-at 0 p.methods
  leaves-stand = record {
    each = λ j k e.
        let same : k ≡ j = omega (arith, e) in
        ap (λ i. elim (slice_get p.methods i) as (λ _. List TableKey) [ None ↦ [] | Some m ↦ leave-key k m ]) same;
  }

  left-keys : (n : ℕ) (m : Method) → keys_in (leave_of p n m) ≡ leave-key n m
  left-keys n m = go m.kind
    where
      go : (k : MethodKind) → keys_in (elim k as (λ _. List Entry) [
        | kinds.Helper ↦ field_entries (keys.Leave n) (fields_of p m.class)
        | _ ↦ []
      ])
          ≡ (if elim k as (λ _. Bool) [ kinds.Helper ↦ true | _ ↦ false ] then field_keys (keys.Leave n) 0 (fields_in p m.class) else [])
      go kinds.Helper = own-fields p m.class (keys.Leave n)
      go kinds.Protocol = refl
      go kinds.Main = refl
      go kinds.Static = refl

  leave-here : (k n : ℕ) → keys_in (leave_entry p k n) ≡ leave-at n
  leave-here k n = go (slice_get p.methods n)
    where
      go : (o : Option Method) → keys_in (elim o as (λ _. List Entry) [ None ↦ [] | Some m ↦ leave_of p n m ]) ≡ elim o
          as (λ _. List TableKey) [ None ↦ [] | Some m ↦ leave-key n m ]
      go None = refl
      go (Some m) = left-keys n m

  leaves-keys : keys_in (leave_entries p (rising ns)) ≡ leave_keys p ns 0 p.methods
  leaves-keys = each-number (leave_entry p) leave-at leave-here 0 (rising ns) ∙
      sym (leaves-chosen 0 p.methods ∙ chosen-rising leave-key leave-at ns p.methods leaves-stand)

-- Results, method by method.

abbrev OfMethod : ℕ → List Context → Type 0
OfMethod n [] = Unit {0}
OfMethod n (x ∷ xs) = (method_in x ≡ n) × OfMethod n xs

states-of : (c n : ℕ) (qs : List ℕ) → OfMethod n (in_states c n qs)
states-of c n [] = tt
states-of c n (q ∷ qs) = (refl, states-of c n qs)

abbrev run-keys : (class : Option ℕ) → (context count : ℕ) → List TableKey
run-keys o i zero = []
run-keys o i (suc k) = key_if (keys.Result i) o ++ run-keys o (suc i) k

run-none : (i k : ℕ) → run-keys None i k ≡ []
run-none i zero = refl
run-none i (suc k) = run-none (suc i) k

run-is : (o : Option ℕ) (i k : ℕ) → keys_in (run_entries o i k) ≡ run-keys o i k
run-is o i zero = refl
run-is o i (suc k) = joined (entry_if (keys.Result i) o) (run_entries o (suc i) k) (key_if (keys.Result i) o) (run-keys o (suc i) k)
    (if-keys (keys.Result i) o) (run-is o (suc i) k)

module _ (p : Program) (reached : List (List Bool)) where
  abbrev entered : ℕ → Method → List Context
  entered n m = contexts_of p reached n m

  entered-of : (n : ℕ) (m : Method) → OfMethod n (entered n m)
  entered-of n m = go m.kind
    where
      go : (k : MethodKind) → OfMethod n (elim k as (λ _. List Context) [
        | kinds.Protocol ↦ in_states m.class n (offering_states (typestate_of p m.class) (reached_states p reached m.class)
            (text_at p m.name))
        | _ ↦ contexts.Plain n ∷ []
      ])
      go kinds.Protocol = states-of m.class n (offering_states (typestate_of p m.class) (reached_states p reached m.class)
          (text_at p m.name))
      go kinds.Helper = (refl, tt)
      go kinds.Main = (refl, tt)
      go kinds.Static = (refl, tt)

  head-start : (i n : ℕ) (ms : List Method) → slice_index_or (starts_from p reached i n ms) 0 0 ≡ i
  head-start i n [] = refl
  head-start i n (m ∷ ms) = refl

  next-start : (i n j k : ℕ) (ms : List Method) (m : Method) → slice_get ms j ≡ Some m → k ≡ n + j →
      slice_index_or (starts_from p reached i n ms) (suc j) 0 ≡ slice_index_or (starts_from p reached i n ms) j 0 + length (entered k m)
  next-start i n j k [] m e h = let no : ⊥ = cc in absurd no
  next-start i n zero k (x ∷ ms) m e h =
      let same : x ≡ m = cc in
      let here : k ≡ n = omega (arith, h) in
      head-start (i + length (entered n x)) (suc n) ms ∙ ap (λ y. i + length (entered n y)) same ∙ ap (λ l. i + length (entered l m))
      (sym here)
  next-start i n (suc j) k (x ∷ ms) m e h = next-start (i + length (entered n x)) (suc n) j k ms m e (omega (arith, h))

  abbrev start : ℕ → ℕ
  start n = slice_index_or (starts_in p reached) n 0

  abbrev result-key : ℕ → Method → List TableKey
  result-key n m = run-keys (result_class p n) (start n) (length (entered n m))

  module _ (ns : List ℕ) where
    abbrev result-at : ℕ → List TableKey
    result-at n = keys_in (class_run (starts_in p reached) n (result_class p n))

    two-parts : (b : Bool) (x y z : List TableKey) → (if b then x else []) ++ ((if b then y else []) ++ z) ≡ (if b then x ++ y else []) ++ z
    two-parts true x y z = sym (append_assoc x y z)
    two-parts false x y z = refl

    no-part : (b : Bool) (x : List TableKey) → x ≡ (if b then [] else []) ++ x
    no-part true x = refl
    no-part false x = refl

    results-of : (n i : ℕ) (xs ys : List Context) → OfMethod n xs → result_keys p ns i (xs ++ ys)
        ≡ (if list_any (nat_eq n) ns then run-keys (result_class p n) i (length xs) else []) ++ result_keys p ns (i + length xs) ys
    results-of n i [] ys a =
        (let z : i ≡ i + zero = omega arith in ap (λ k. result_keys p ns k ys) z) ∙ no-part (list_any (nat_eq n) ns)
        (result_keys p ns (i + zero) ys)
    results-of n i (x ∷ xs) ys a =
        ap (λ k. (if list_any (nat_eq k) ns then key_if (keys.Result i) (result_class p k) else []) ++ result_keys p ns (suc i) (xs ++ ys))
        a.0
        ∙ ap (λ r. (if list_any (nat_eq n) ns then key_if (keys.Result i) (result_class p n) else []) ++ r) (results-of n (suc i) xs ys a.1)
        ∙ two-parts (list_any (nat_eq n) ns) (key_if (keys.Result i) (result_class p n)) (run-keys (result_class p n) (suc i) (length xs))
        (result_keys p ns (suc i + length xs) ys)
        ∙ (let z : suc i + length xs ≡ i + suc (length xs) = omega arith in
        ap (λ k. (if list_any (nat_eq n) ns then run-keys (result_class p n) i (suc (length xs)) else []) ++ result_keys p ns k ys) z)

    record Starts (i n : ℕ) (ms : List Method) : Type 0 where
      pub each : (j k : ℕ) → k ≡ n + j → start k ≡ slice_index_or (starts_from p reached i n ms) j 0

    results-chosen : (i n : ℕ) (ms : List Method) → Starts i n ms → result_keys p ns i (contexts_from p reached n ms) ≡ chosen result-key ns
        n ms
    results-chosen i n [] s = refl
    results-chosen i n (m ∷ ms) s =
        results-of n i (entered n m) (contexts_from p reached (suc n) ms) (entered-of n m)
        ∙ ap (λ k. (if list_any (nat_eq n) ns then run-keys (result_class p n) k (length (entered n m)) else []) ++ result_keys p ns
        (i + length (entered n m)) (contexts_from p reached (suc n) ms))
        (sym (s.each 0 n (omega arith)))
        ∙ ap (λ r. (if list_any (nat_eq n) ns then result-key n m else []) ++ r)
        (results-chosen (i + length (entered n m)) (suc n) ms (record { each = λ j k e. s.each (suc j) k (omega (arith, e)) }))

    counted : (k : ℕ) (m : Method) → slice_get p.methods k ≡ Some m → slice_index_or (starts_in p reached) (k + 1) 0 - start k ≡ length
        (entered k m)
    counted k m e =
        let h = ap (λ n. slice_index_or (starts_in p reached) n 0) (add-one k) ∙ next-start 0 0 k k p.methods m e (omega arith) in
        omega (arith, h)

    run-class : (k : ℕ) (m : Method) (o : Option ℕ) → slice_get p.methods k ≡ Some m → keys_in (class_run (starts_in p reached) k o) ≡
        run-keys o (start k) (length (entered k m))
    run-class k m None e = sym (run-none (start k) (length (entered k m)))
    run-class k m (Some c) e = ap (λ n. keys_in (run_entries (Some c) (start k) n)) (counted k m e) ∙ run-is (Some c) (start k)
        (length (entered k m))

    abbrev class_with : Option Method → Option ℕ
    class_with o = elim o as (λ _. Option ℕ) [ None ↦ None | Some m ↦ class_in m.result ]

    result-found : (k : ℕ) (o : Option Method) → slice_get p.methods k ≡ o → result-at k ≡ elim o as (λ _. List TableKey)
        [ None ↦ [] | Some m ↦ result-key k m ]
    result-found k None e = ap (λ o. keys_in (class_run (starts_in p reached) k (class_with o))) e
    result-found k (Some m) e = run-class k m (result_class p k) e

    results-stand : Stands result-key result-at 0 p.methods
    results-stand = record {
      each = λ j k e.
          let same : k ≡ j = omega (arith, e) in
          result-found k (slice_get p.methods k) refl ∙
          ap (λ i. elim (slice_get p.methods i) as (λ _. List TableKey) [ None ↦ [] | Some m ↦ result-key k m ]) same;
    }

    results-keys : keys_in (result_entries p (starts_in p reached) (rising ns)) ≡ result_keys p ns 0 (contexts_in p reached)
    results-keys =
        each-number (result_entry p (starts_in p reached)) result-at (λ i k. refl) 0 (rising ns)
        ∙ sym (results-chosen 0 0 p.methods (record { each = λ j k e. (let same : k ≡ j = omega (arith, e) in ap start same) })
        ∙ chosen-rising result-key result-at ns p.methods results-stand)

-- What a method begins with.

state-keys-are : (p : Program) (c : Context) (m : Method) → keys_in (state_entries p c m) ≡ state_keys p c m
state-keys-are p (contexts.Protocol c q n) m = own-fields p m.class (keys.Field c q)
state-keys-are p (contexts.Plain n) m = refl

enter-keys-are : (p : Program) (c : Context) (m : Method) → keys_in (enter_entries p c m) ≡ enter_keys p c m
enter-keys-are p (contexts.Protocol c q n) m = refl
enter-keys-are p (contexts.Plain n) m = go m.kind
  where
    go : (k : MethodKind) → keys_in (elim k as (λ _. List Entry) [
      | kinds.Helper ↦ field_entries (keys.Enter n) (fields_of p m.class)
      | _ ↦ []
    ])
        ≡ (if elim k as (λ _. Bool) [ kinds.Helper ↦ true | _ ↦ false ] then field_keys (keys.Enter n) 0 (fields_in p m.class) else [])
    go kinds.Helper = own-fields p m.class (keys.Enter n)
    go kinds.Protocol = refl
    go kinds.Main = refl
    go kinds.Static = refl

-- All of a context.

asked-keys : (p : Program) (reached : List (List Bool)) (c : Context) (m : Method) →
    keys_in (read_entries p (starts_in p reached) (number_of (contexts_in p reached) c) c m) ≡ asked p (contexts_in p reached) c m
asked-keys p reached c m =
    let here = number_of (contexts_in p reached) c in
    let named = named_in_all m.body in
    let e6 = loops-from p here m 0 m.loops in
    let e5 = joined (leave_entries p (rising named)) (loop_entries p here m m.loops) _ _ (leaves-keys p named) e6 in
    let e4 = joined (enter_entries p c m) _ _ _ (enter-keys-are p c m) e5 in
    let e3 = joined (result_entries p (starts_in p reached) (rising named)) _ _ _ (results-keys p reached named) e4 in
    let e2 = joined (param_entries here (param_types m)) _ _ _ (params-from here 0 (param_types m)) e3 in
    joined (state_entries p c m) _ _ _ (state-keys-are p c m) e2

abbrev reads_with : Program → List (List Bool) → Context → Option Method → List TableKey
reads_with p reached c o = elim o as (λ _. List TableKey) [ None ↦ [] | Some m ↦ asked p (contexts_in p reached) c m ]

pub read_some : (p : Program) (t : held.Tables) (c : Context) (m : Method) (starts : List ℕ) (here : ℕ) (es : List Entry)
    (ks : List TableKey) →
    AreFor p t → starts ≡ starts_in p (reached_of t) → Some m ≡ slice_get p.methods (method_in c) → here ≡ number_of (view.contexts_of t) c
    →
    es ≡ read_entries p starts here c m → ks ≡ keys_in es → ks ≡ reads p (reached_of t) c
read_some p t c m starts here es ks a s o h e k =
    k ∙ ap keys_in (e ∙ ap (λ x. read_entries p x here c m) s ∙ ap (λ x. read_entries p (starts_in p (reached_of t)) x c m)
    (h ∙ ap (λ cs. number_of cs c) a.contexts))
    ∙ asked-keys p (reached_of t) c m ∙ ap (reads_with p (reached_of t) c) o

pub read_none : (p : Program) (t : held.Tables) (c : Context) (ks : List TableKey) → None ≡ slice_get p.methods (method_in c) → ks ≡ [] →
    ks ≡ reads p (reached_of t) c
read_none p t c ks o k = k ∙ ap (reads_with p (reached_of t) c) o

pub read_by : (p : Program) (t : held.Tables) (c : Context) (ks : List TableKey) → AreFor p t → ks ≡ reads p (reached_of t) c →
    AreRead p c ks
read_by p t c ks a k = record { reached = reached_of t; are = a.reached; is = k }

pub ruleset asked_for = (read_some, read_none, read_by)
