-- The tables that are listed are those that have a class, each with its class.
use Rattle.std.proofs.Common.{◌≡◌, ℕ, zero, suc, ◌+◌, ◌-◌, ◌≤◌, Bool, true, false, cond, ◌||◌, List, [], ◌∷◌, ◌++◌, length, Option, Some}
use Rattle.std.proofs.Common.{None, slice_get, option_map, refl, sym, ap, ◌∙◌, subst, arith}
use Rattle.std.specs.Prelude.{nat_eq, option_and_then, Contains}
use Rattle.std.specs.List.{AllByRecursion, list_any}
use Rattle.std.proofs.lemmas.Bool.{false≢true, eqb-true, eq-eqb}
use Rattle.std.proofs.lemmas.Option.{none-some, same_Some, slice_get_past}
use Rattle.std.proofs.lemmas.List.Elements.{Contains-append_left, Contains-append_right}
use Rattle.ts_tree.specs.Typestate.{State}
use Rattle.jv_core.specs.declared.program.CoreType.{CoreType}
use Rattle.jv_core.specs.declared.program.MethodKind.{MethodKind}
use Rattle.jv_core.specs.declared.program.MethodKind.TheVariants as kinds
use Rattle.jv_core.specs.Tree.{Class, Field, Loop, Method, Program, Slot}
use Rattle.jv_core.specs.Lookup.{slot_type, field_type, param_types}
use Rattle.use_flow.specs.declared.classed.Entry.{Entry}
use Rattle.use_rules.specs.declared.key.Context.{Context}
use Rattle.use_rules.specs.declared.key.TableKey.{TableKey}
use Rattle.use_rules.specs.declared.key.TableKey.TheVariants as keys
use Rattle.use_rules.specs.Keys.{class_in, contexts_in, method_in, typestate_of}
use Rattle.use_rules.specs.Shapes.{class_at, field_class, is_helper, is_instance, is_state, method_at, variable_class_at}
use Rattle.use_flow.specs.inner.Listing.{listed_from, entry_if, field_entry, field_entries, fields_of, state_entry, class_entries}
use Rattle.use_flow.specs.inner.Listing.{by_classes}
use Rattle.use_flow.specs.inner.Listing.{method_entries, by_methods, param_entry, param_entries, slot_entry, scope_entries, head_key}
use Rattle.use_flow.specs.inner.Listing.{head_entries, loop_entries, loops_entries}
use Rattle.use_flow.specs.inner.Listing.{context_entries, entries_at, by_contexts, entries_in}

-- Lists.

module _ {A : Type 0} (P : A → Type 0) where
  pub every_append : (xs ys : List A) → AllByRecursion P xs → AllByRecursion P ys → AllByRecursion P (xs ++ ys)
  every_append [] ys a b = b
  every_append (x ∷ xs) ys a b = (a.0, every_append xs ys a.1 b)

  pub every_at : (xs : List A) (n : ℕ) (x : A) → AllByRecursion P xs → slice_get xs n ≡ Some x → P x
  every_at [] n x a e = absurd (none-some x e)
  every_at (y ∷ xs) zero x a e = subst P (same_Some y x e) a.0
  every_at (y ∷ xs) (suc n) x a e = every_at xs n x a.1 e

plus_zero : (k : ℕ) → k + 0 ≡ k
plus_zero k = omega arith

plus_suc : (k n : ℕ) → k + suc n ≡ suc k + n
plus_suc k n = omega arith

zero_plus : (n : ℕ) → n ≡ 0 + n
zero_plus n = omega arith

module _ {A : Type 0} (f : ℕ → A → List Entry) where
  every_from : (P : Entry → Type 0) (xs : List A) (k : ℕ) → ((n : ℕ) (x : A) → slice_get xs n ≡ Some x → AllByRecursion P (f (k + n) x)) →
      AllByRecursion P (listed_from f k xs)
  every_from P [] k h = tt
  every_from P (x ∷ xs) k h = every_append P (f k x) (listed_from f (suc k) xs)
      (subst (λ j. AllByRecursion P (f j x)) (plus_zero k) (h 0 x refl))
      (every_from P xs (suc k) (λ n y e. subst (λ j. AllByRecursion P (f j y)) (plus_suc k n) (h (suc n) y e)))

  every_listed : (P : Entry → Type 0) (xs : List A) → ((n : ℕ) (x : A) → slice_get xs n ≡ Some x → AllByRecursion P (f n x)) →
      AllByRecursion P (listed_from f 0 xs)
  every_listed P xs h = every_from P xs 0 (λ n x e. subst (λ j. AllByRecursion P (f j x)) (zero_plus n) (h n x e))

  in_from : (xs : List A) (k n : ℕ) (x : A) (e : Entry) → slice_get xs n ≡ Some x → Contains (f (k + n) x) e →
      Contains (listed_from f k xs) e
  in_from [] k n x e at c = absurd (none-some x at)
  in_from (y ∷ xs) k zero x e at c = Contains-append_left (f k y) (listed_from f (suc k) xs) e
      (subst (λ j. Contains (f j y) e) (plus_zero k) (subst (λ z. Contains (f (k + 0) z) e) (sym (same_Some y x at)) c))
  in_from (y ∷ xs) k (suc n) x e at c = Contains-append_right (f k y) (listed_from f (suc k) xs) e
      (in_from xs (suc k) n x e at (subst (λ j. Contains (f j x) e) (plus_suc k n) c))

  in_listed : (xs : List A) (n : ℕ) (x : A) (e : Entry) → slice_get xs n ≡ Some x → Contains (f n x) e → Contains (listed_from f 0 xs) e
  in_listed xs n x e at c = in_from xs 0 n x e at (subst (λ j. Contains (f j x) e) (zero_plus n) c)

-- a table, with its class
abbrev entry : TableKey → ℕ → Entry
entry key c = record { key = key; class = c }

every_if : (P : Entry → Type 0) (key : TableKey) (o : Option ℕ) → ((c : ℕ) → o ≡ Some c → P (entry key c)) →
    AllByRecursion P (entry_if key o)
every_if P key None h = tt
every_if P key (Some c) h = (h c refl, tt)

in_if : (key : TableKey) (o : Option ℕ) (c : ℕ) → o ≡ Some c → Contains (entry_if key o) (entry key c)
in_if key None c e = absurd (none-some c e)
in_if key (Some d) c e = (0, omega arith, ap (entry key) (same_Some d c e))

every_fields : (P : Entry → Type 0) (to : ℕ → TableKey) (ds : List Field) → ((f : ℕ) (d : Field) (c : ℕ) → slice_get ds f ≡ Some d →
    class_in d.ty ≡ Some c → P (entry (to f) c)) →
    AllByRecursion P (field_entries to ds)
every_fields P to ds h = every_listed (field_entry to) P ds (λ n d at. every_if P (to n) (class_in d.ty) (λ c e. h n d c at e))

in_fields : (to : ℕ → TableKey) (ds : List Field) (f : ℕ) (d : Field) (c : ℕ) → slice_get ds f ≡ Some d → class_in d.ty ≡ Some c →
    Contains (field_entries to ds) (entry (to f) c)
in_fields to ds f d c at e = in_listed (field_entry to) ds f d (entry (to f) c) at (in_if (to f) (class_in d.ty) c e)

-- What options say.

and_then_some : {A B : Type 0} (f : A → Option B) (o : Option A) (b : B) → option_and_then f o ≡ Some b → (x : A) × (o ≡ Some x)
    × (f x ≡ Some b)
and_then_some f None b e = absurd (none-some b e)
and_then_some f (Some x) b e = (x, refl, e)

map_some : {A B : Type 0} (f : A → B) (o : Option A) (b : B) → option_map f o ≡ Some b → (x : A) × (o ≡ Some x) × (f x ≡ b)
map_some f None b e = absurd (none-some b e)
map_some f (Some x) b e = (x, refl, same_Some (f x) b e)

when : (b : Bool) (o : Option ℕ) (c : ℕ) → cond b o None ≡ Some c → (b ≡ true) × (o ≡ Some c)
when true o c e = (refl, e)
when false o c e = absurd (none-some c e)

state_some : (o : Option State) → elim o as (λ _. Bool) [ None ↦ false | Some s ↦ true ] ≡ true → (s : State) × (o ≡ Some s)
state_some None e = absurd (false≢true e)
state_some (Some s) e = (s, refl)

or_right : (a b : Bool) → b ≡ true → (a || b) ≡ true
or_right true b e = refl
or_right false b e = e

any_at : (ks : List ℕ) (i k : ℕ) → slice_get ks i ≡ Some k → list_any (nat_eq k) ks ≡ true
any_at [] i k e = absurd (none-some k e)
any_at (y ∷ ks) zero k e = ap (λ b. b || list_any (nat_eq k) ks) (eq-eqb k y (sym (same_Some y k e)))
any_at (y ∷ ks) (suc i) k e = or_right (nat_eq k y) (list_any (nat_eq k) ks) (any_at ks i k e)

any_pick : (y k : ℕ) (ks : List ℕ) (b : Bool) → nat_eq k y ≡ b → (list_any (nat_eq k) ks ≡ true → (i : ℕ) × (slice_get ks i ≡ Some k)) →
    (b || list_any (nat_eq k) ks) ≡ true → (i : ℕ) × (slice_get (y ∷ ks) i ≡ Some k)
any_pick y k ks true h f t = (0, ap Some (sym (eqb-true k y h)))
any_pick y k ks false h f t = let r = f t in (suc r.0, r.1)

any_some : (ks : List ℕ) (k : ℕ) → list_any (nat_eq k) ks ≡ true → (i : ℕ) × (slice_get ks i ≡ Some k)
any_some [] k e = absurd (false≢true e)
any_some (y ∷ ks) k e = any_pick y k ks (nat_eq k y) refl (any_some ks k) e

past_slots : (m : Method) (f : ℕ) → slot_type m (length m.slots + f) ≡ None
past_slots m f = ap (option_map (λ (s : Slot). s.ty)) (slice_get_past m.slots (length m.slots + f) (omega arith))

behind_slots : (m : Method) (k : ℕ) → slot_type m k ≡ None → length m.slots + (k - length m.slots) ≡ k
behind_slots m k e = let le = behind m.slots k e in omega (arith, le)
  where
    behind : (xs : List Slot) (k : ℕ) → option_map (λ (s : Slot). s.ty) (slice_get xs k) ≡ None → length xs ≤ k
    behind [] k e = omega arith
    behind (x ∷ xs) zero e = absurd (none-some x.ty (sym e))
    behind (x ∷ xs) (suc k) e = let r = behind xs k e in omega (arith, r)

fields_behind : (m : Method) (f : ℕ) → (length m.slots + f) - length m.slots ≡ f
fields_behind m f = omega arith

helper_true : (m : Method) → m.kind ≡ kinds.Helper → is_helper m ≡ true
helper_true m e = ap (λ (k : MethodKind). elim k as (λ _. Bool) [ kinds.Helper ↦ true | _ ↦ false ]) e

instance_if : (m : Method) (k : MethodKind) → m.kind ≡ k → elim k as (λ _. Bool) [ kinds.Protocol ↦ true | kinds.Helper ↦ true | _ ↦ false ]
    ≡ true → is_instance m ≡ true
instance_if m k e h = ap (λ (k : MethodKind). elim k as (λ _. Bool) [ kinds.Protocol ↦ true | kinds.Helper ↦ true | _ ↦ false ]) e ∙ h

module _ (p : Program) where
  field_at : (c f : ℕ) (k : Class) (d : Field) → slice_get p.classes c ≡ Some k → slice_get k.fields f ≡ Some d →
      field_class p c f ≡ class_in d.ty
  field_at c f k d a b =
      ap (λ o. option_and_then class_in (option_and_then (λ (k : Class). option_map (λ (d : Field). d.ty) (slice_get k.fields f)) o)) a
      ∙ ap (λ o. option_and_then class_in (option_map (λ (d : Field). d.ty) o)) b

  own_at : (c f : ℕ) (d : Field) → slice_get (fields_of p c) f ≡ Some d → field_class p c f ≡ class_in d.ty
  own_at c f d h = go (slice_get p.classes c) refl h
    where
      go : (o : Option Class) → slice_get p.classes c ≡ o → slice_get (elim o as (λ _. List Field) [ None ↦ [] | Some k ↦ k.fields ]) f ≡
          Some d → field_class p c f ≡ class_in d.ty
      go None e h = absurd (none-some d h)
      go (Some k) e h = field_at c f k d e h

  -- the field that gives a class
  record Known (c f class : ℕ) : Type 0 where
    within : Class
    at : slice_get p.classes c ≡ Some within
    field : Field
    named : slice_get within.fields f ≡ Some field
    is : class_in field.ty ≡ Some class

  known : (c f class : ℕ) → field_class p c f ≡ Some class → Known c f class
  known c f class h =
      let a = and_then_some class_in (field_type p c f) class h in
      let b = and_then_some (λ (k : Class). option_map (λ (d : Field). d.ty) (slice_get k.fields f)) (slice_get p.classes c) a.0 a.1 in
      let d = map_some (λ (d : Field). d.ty) (slice_get (b.0).fields f) a.0 b.2 in
      record { within = b.0; at = b.1; field = d.0; named = d.1; is = ap class_in d.2 ∙ a.2 }

  in_own : (to : ℕ → TableKey) (c f class : ℕ) → field_class p c f ≡ Some class → Contains (field_entries to (fields_of p c))
      (entry (to f) class)
  in_own to c f class h =
      let k = known c f class h in
      subst (λ ds. Contains (field_entries to ds) (entry (to f) class))
      (sym (ap (λ o. elim o as (λ _. List Field) [ None ↦ [] | Some k ↦ k.fields ]) k.at))
      (in_fields to (k.within).fields f k.field class k.named k.is)

  module _ (reached : List (List Bool)) where
    abbrev pub Sound : Entry → Type 0
    Sound e = class_at p reached e.key ≡ Some e.class

    -- Each table that is listed has its class.

    sound_classes : AllByRecursion Sound (by_classes p)
    sound_classes = every_listed (class_entries p) Sound p.classes (λ c k at.
        every_listed (state_entry c k.fields) Sound (typestate_of p c).states (λ q s within.
        every_fields Sound (keys.Field c q) k.fields (λ f d e named is.
        ap (λ b. cond b (field_class p c f) None) (ap (λ o. elim o as (λ _. Bool) [ None ↦ false | Some s ↦ true ]) within)
        ∙ field_at c f k d at named ∙ is)))

    helper_class : (n : ℕ) (m : Method) (f : ℕ) (d : Field) (class : ℕ) → slice_get p.methods n ≡ Some m → m.kind ≡ kinds.Helper →
        slice_get (fields_of p m.class) f ≡ Some d →
        class_in d.ty ≡ Some class → class_at p reached (keys.Enter n f) ≡ Some class
    helper_class n m f d class at h named is =
        ap (option_and_then (λ (m : Method). cond (is_helper m) (field_class p m.class f) None)) at
        ∙ ap (λ b. cond b (field_class p m.class f) None) (helper_true m h) ∙ own_at m.class f d named ∙ is

    sound_methods : AllByRecursion Sound (by_methods p)
    sound_methods = every_listed (method_entries p) Sound p.methods (λ n m at. go n m at m.kind refl)
      where
        go : (n : ℕ) (m : Method) → slice_get p.methods n ≡ Some m → (k : MethodKind) → m.kind ≡ k →
            AllByRecursion Sound (elim k as (λ _. List Entry) [
              | kinds.Helper ↦ field_entries (keys.Enter n) (fields_of p m.class) ++ field_entries (keys.Leave n) (fields_of p m.class)
              | _ ↦ []
            ])
        go n m at kinds.Main h = tt
        go n m at kinds.Static h = tt
        go n m at kinds.Protocol h = tt
        go n m at kinds.Helper h = every_append Sound (field_entries (keys.Enter n) (fields_of p m.class))
            (field_entries (keys.Leave n) (fields_of p m.class))
            (every_fields Sound (keys.Enter n) (fields_of p m.class) (λ f d class named is. helper_class n m f d class at h named is))
            (every_fields Sound (keys.Leave n) (fields_of p m.class) (λ f d class named is. helper_class n m f d class at h named is))

    module _ (c : ℕ) (m : Method) (here : method_at p reached c ≡ Some m) where
      loop_class : (l k : ℕ) (head : Loop) → slice_get m.loops l ≡ Some head → class_at p reached (keys.Loop c l k) ≡ variable_class_at p m
          head k
      loop_class l k head at =
          ap (option_and_then (λ (m : Method). option_and_then (λ (head : Loop). variable_class_at p m head k) (slice_get m.loops l))) here
          ∙ ap (option_and_then (λ (head : Loop). variable_class_at p m head k)) at

      slot_class : (o : Option CoreType) (b : Bool) (other : Option ℕ) (class : ℕ) → b ≡ true → option_and_then class_in o ≡ Some class →
          elim o as (λ _. Option ℕ) [ Some ty ↦ cond b (class_in ty) None | None ↦ other ] ≡ Some class
      slot_class None b other class h e = absurd (none-some class e)
      slot_class (Some ty) b other class h e = ap (λ b. cond b (class_in ty) None) h ∙ e

      sound_scope : (l : ℕ) (head : Loop) → slice_get m.loops l ≡ Some head → AllByRecursion Sound (scope_entries m c l head.scope)
      sound_scope l head at = every_listed (slot_entry m c l) Sound head.scope
          (λ i k within. every_if Sound (keys.Loop c l k) (option_and_then class_in (slot_type m k)) (λ class e.
          loop_class l k head at
          ∙ slot_class (slot_type m k) (list_any (nat_eq k) head.scope) (cond (is_instance m) (field_class p m.class (k - length m.slots))
          None) class (any_at head.scope i k within) e))

      field_of_head : (l f : ℕ) (head : Loop) (d : Field) (class : ℕ) → slice_get m.loops l ≡ Some head → is_instance m ≡ true →
          slice_get (fields_of p m.class) f ≡ Some d →
          class_in d.ty ≡ Some class → class_at p reached (head_key m c l f) ≡ Some class
      field_of_head l f head d class at h named is =
          loop_class l (length m.slots + f) head at
          ∙ ap (λ o. elim o as (λ _. Option ℕ) [
            | Some ty ↦ cond (list_any (nat_eq (length m.slots + f)) head.scope) (class_in ty) None
            | None ↦ cond (is_instance m) (field_class p m.class ((length m.slots + f) - length m.slots)) None
          ]) (past_slots m f)
          ∙ ap (λ b. cond b (field_class p m.class ((length m.slots + f) - length m.slots)) None) h
          ∙ ap (field_class p m.class) (fields_behind m f) ∙ own_at m.class f d named ∙ is

      sound_head : (l : ℕ) (head : Loop) → slice_get m.loops l ≡ Some head → AllByRecursion Sound (head_entries p c m l)
      sound_head l head at = go m.kind refl
        where
          fields : is_instance m ≡ true → AllByRecursion Sound (field_entries (head_key m c l) (fields_of p m.class))
          fields h = every_fields Sound (head_key m c l) (fields_of p m.class) (λ f d class named is. field_of_head l f head d class at h
              named is)

          go : (k : MethodKind) → m.kind ≡ k → AllByRecursion Sound (elim k as (λ _. List Entry) [
            | kinds.Protocol ↦ field_entries (head_key m c l) (fields_of p m.class)
            | kinds.Helper ↦ field_entries (head_key m c l) (fields_of p m.class)
            | _ ↦ []
          ])
          go kinds.Main h = tt
          go kinds.Static h = tt
          go kinds.Protocol h = fields (instance_if m kinds.Protocol h refl)
          go kinds.Helper h = fields (instance_if m kinds.Helper h refl)

      sound_context : AllByRecursion Sound (context_entries p c m)
      sound_context =
          every_append Sound (param_entries c (param_types m)) (entry_if (keys.Result c) (class_in m.result) ++ loops_entries p c m m.loops)
          (every_listed (param_entry c) Sound (param_types m) (λ i ty at. every_if Sound (keys.Param c i) (class_in ty) (λ class e.
          ap (option_and_then (λ (m : Method). option_and_then class_in (slice_get (param_types m) i))) here ∙ ap (option_and_then class_in)
          at ∙ e)))
          (every_append Sound (entry_if (keys.Result c) (class_in m.result)) (loops_entries p c m m.loops)
          (every_if Sound (keys.Result c) (class_in m.result) (λ class e. ap (option_and_then (λ (m : Method). class_in m.result)) here ∙
          e))
          (every_listed (loop_entries p c m) Sound m.loops (λ l head at.
          every_append Sound (scope_entries m c l head.scope) (head_entries p c m l) (sound_scope l head at) (sound_head l head at))))

    sound_contexts : AllByRecursion Sound (by_contexts p (contexts_in p reached))
    sound_contexts = every_listed (entries_at p) Sound (contexts_in p reached) (λ c x at. go c x at (slice_get p.methods (method_in x))
        refl)
      where
        go : (c : ℕ) (x : Context) → slice_get (contexts_in p reached) c ≡ Some x → (o : Option Method) →
            slice_get p.methods (method_in x) ≡ o →
            AllByRecursion Sound (elim o as (λ _. List Entry) [ None ↦ [] | Some m ↦ context_entries p c m ])
        go c x at None e = tt
        go c x at (Some m) e = sound_context c m (ap (option_and_then (λ (x : Context). slice_get p.methods (method_in x))) at ∙ e)

    pub sound : AllByRecursion Sound (entries_in p (contexts_in p reached))
    sound = every_append Sound (by_classes p) (by_methods p ++ by_contexts p (contexts_in p reached)) sound_classes
        (every_append Sound (by_methods p) (by_contexts p (contexts_in p reached)) sound_methods sound_contexts)

    -- Each table that has a class is listed.

    in_classes : (c q f class : ℕ) → cond (is_state p c q) (field_class p c f) None ≡ Some class →
        Contains (by_classes p) (entry (keys.Field c q f) class)
    in_classes c q f class h =
        let w = when (is_state p c q) (field_class p c f) class h in
        let s = state_some (slice_get (typestate_of p c).states q) w.0 in
        let k = known c f class w.1 in
        in_listed (class_entries p) p.classes c k.within (entry (keys.Field c q f) class) k.at
        (in_listed (state_entry c (k.within).fields) (typestate_of p c).states q s.0 (entry (keys.Field c q f) class) s.1
        (in_fields (keys.Field c q) (k.within).fields f k.field class k.named k.is))

    in_helper : (k : MethodKind) (es : List Entry) (e : Entry) → elim k as (λ _. Bool) [ kinds.Helper ↦ true | _ ↦ false ] ≡ true →
        Contains es e →
        Contains (elim k as (λ _. List Entry) [ kinds.Helper ↦ es | _ ↦ [] ]) e
    in_helper kinds.Main es e h c = absurd (false≢true h)
    in_helper kinds.Static es e h c = absurd (false≢true h)
    in_helper kinds.Protocol es e h c = absurd (false≢true h)
    in_helper kinds.Helper es e h c = c

    in_methods : (n : ℕ) (m : Method) (e : Entry) → slice_get p.methods n ≡ Some m → is_helper m ≡ true →
        Contains (field_entries (keys.Enter n) (fields_of p m.class) ++ field_entries (keys.Leave n) (fields_of p m.class)) e →
        Contains (by_methods p) e
    in_methods n m e at h c = in_listed (method_entries p) p.methods n m e at
        (in_helper m.kind (field_entries (keys.Enter n) (fields_of p m.class) ++ field_entries (keys.Leave n) (fields_of p m.class)) e h c)

    in_contexts : (c : ℕ) (m : Method) (e : Entry) → method_at p reached c ≡ Some m → Contains (context_entries p c m) e →
        Contains (by_contexts p (contexts_in p reached)) e
    in_contexts c m e h d =
        let x = and_then_some (λ (x : Context). slice_get p.methods (method_in x)) (slice_get (contexts_in p reached) c) m h in
        in_listed (entries_at p) (contexts_in p reached) c x.0 e x.1
        (subst (λ o. Contains (elim o as (λ _. List Entry) [ None ↦ [] | Some m ↦ context_entries p c m ]) e) (sym x.2) d)

    in_instance : (k : MethodKind) (es : List Entry) (e : Entry) →
        elim k as (λ _. Bool) [ kinds.Protocol ↦ true | kinds.Helper ↦ true | _ ↦ false ] ≡ true → Contains es e →
        Contains (elim k as (λ _. List Entry) [ kinds.Protocol ↦ es | kinds.Helper ↦ es | _ ↦ [] ]) e
    in_instance kinds.Main es e h c = absurd (false≢true h)
    in_instance kinds.Static es e h c = absurd (false≢true h)
    in_instance kinds.Protocol es e h c = c
    in_instance kinds.Helper es e h c = c

    in_loop : (c l k : ℕ) (m : Method) (head : Loop) (class : ℕ) → variable_class_at p m head k ≡ Some class →
        Contains (loop_entries p c m l head) (entry (keys.Loop c l k) class)
    in_loop c l k m head class h = go (slot_type m k) refl h
      where
        go : (o : Option CoreType) → slot_type m k ≡ o → elim o as (λ _. Option ℕ) [
          | Some ty ↦ cond (list_any (nat_eq k) head.scope) (class_in ty) None
          | None ↦ cond (is_instance m) (field_class p m.class (k - length m.slots)) None
        ] ≡ Some class → Contains (loop_entries p c m l head) (entry (keys.Loop c l k) class)
        go (Some ty) e h =
            let w = when (list_any (nat_eq k) head.scope) (class_in ty) class h in
            let i = any_some head.scope k w.0 in
            Contains-append_left (scope_entries m c l head.scope) (head_entries p c m l) (entry (keys.Loop c l k) class)
            (in_listed (slot_entry m c l) head.scope i.0 k (entry (keys.Loop c l k) class) i.1
            (in_if (keys.Loop c l k) (option_and_then class_in (slot_type m k)) class (ap (option_and_then class_in) e ∙ w.1)))
        go None e h =
            let w = when (is_instance m) (field_class p m.class (k - length m.slots)) class h in
            Contains-append_right (scope_entries m c l head.scope) (head_entries p c m l) (entry (keys.Loop c l k) class)
            (in_instance m.kind (field_entries (head_key m c l) (fields_of p m.class)) (entry (keys.Loop c l k) class) w.0
            (subst (λ n. Contains (field_entries (head_key m c l) (fields_of p m.class)) (entry (keys.Loop c l n) class))
            (behind_slots m k e)
            (in_own (head_key m c l) m.class (k - length m.slots) class w.1)))

    of_classes : (e : Entry) → Contains (by_classes p) e → Contains (entries_in p (contexts_in p reached)) e
    of_classes e c = Contains-append_left (by_classes p) (by_methods p ++ by_contexts p (contexts_in p reached)) e c

    of_methods : (e : Entry) → Contains (by_methods p) e → Contains (entries_in p (contexts_in p reached)) e
    of_methods e c = Contains-append_right (by_classes p) (by_methods p ++ by_contexts p (contexts_in p reached)) e
        (Contains-append_left (by_methods p) (by_contexts p (contexts_in p reached)) e c)

    of_contexts : (e : Entry) → Contains (by_contexts p (contexts_in p reached)) e → Contains (entries_in p (contexts_in p reached)) e
    of_contexts e c = Contains-append_right (by_classes p) (by_methods p ++ by_contexts p (contexts_in p reached)) e
        (Contains-append_right (by_methods p) (by_contexts p (contexts_in p reached)) e c)

    of_helper : (key : TableKey) (n f class : ℕ) (to : ℕ → TableKey) →
        option_and_then (λ (m : Method). cond (is_helper m) (field_class p m.class f) None) (slice_get p.methods n) ≡ Some class →
        ((m : Method) → Contains (field_entries to (fields_of p m.class)) (entry key class) →
        Contains (field_entries (keys.Enter n) (fields_of p m.class) ++ field_entries (keys.Leave n) (fields_of p m.class))
        (entry key class)) →
        to f ≡ key → Contains (entries_in p (contexts_in p reached)) (entry key class)
    of_helper key n f class to h side is =
        let m = and_then_some (λ (m : Method). cond (is_helper m) (field_class p m.class f) None) (slice_get p.methods n) class h in
        let w = when (is_helper m.0) (field_class p (m.0).class f) class m.2 in
        of_methods (entry key class) (in_methods n m.0 (entry key class) m.1 w.0 (side m.0
        (subst (λ x. Contains (field_entries to (fields_of p (m.0).class)) (entry x class)) is (in_own to (m.0).class f class w.1))))

    pub in_list : (key : TableKey) (class : ℕ) → class_at p reached key ≡ Some class → Contains (entries_in p (contexts_in p reached))
        (entry key class)
    in_list (keys.Field c q f) class h = of_classes (entry (keys.Field c q f) class) (in_classes c q f class h)
    in_list (keys.Enter n f) class h = of_helper (keys.Enter n f) n f class (keys.Enter n) h
        (λ m c. Contains-append_left (field_entries (keys.Enter n) (fields_of p m.class))
        (field_entries (keys.Leave n) (fields_of p m.class)) (entry (keys.Enter n f) class) c) refl
    in_list (keys.Leave n f) class h = of_helper (keys.Leave n f) n f class (keys.Leave n) h
        (λ m c. Contains-append_right (field_entries (keys.Enter n) (fields_of p m.class))
        (field_entries (keys.Leave n) (fields_of p m.class)) (entry (keys.Leave n f) class) c) refl
    in_list (keys.Param c i) class h =
        let m = and_then_some (λ (m : Method). option_and_then class_in (slice_get (param_types m) i)) (method_at p reached c) class h in
        let ty = and_then_some class_in (slice_get (param_types m.0) i) class m.2 in
        of_contexts (entry (keys.Param c i) class) (in_contexts c m.0 (entry (keys.Param c i) class) m.1
        (Contains-append_left (param_entries c (param_types m.0)) (entry_if (keys.Result c) (class_in (m.0).result) ++ loops_entries p c m.0
        (m.0).loops) (entry (keys.Param c i) class)
        (in_listed (param_entry c) (param_types m.0) i ty.0 (entry (keys.Param c i) class) ty.1
        (in_if (keys.Param c i) (class_in ty.0) class ty.2))))
    in_list (keys.Result c) class h =
        let m = and_then_some (λ (m : Method). class_in m.result) (method_at p reached c) class h in
        of_contexts (entry (keys.Result c) class) (in_contexts c m.0 (entry (keys.Result c) class) m.1
        (Contains-append_right (param_entries c (param_types m.0)) (entry_if (keys.Result c) (class_in (m.0).result) ++ loops_entries p c
        m.0 (m.0).loops) (entry (keys.Result c) class)
        (Contains-append_left (entry_if (keys.Result c) (class_in (m.0).result)) (loops_entries p c m.0 (m.0).loops)
        (entry (keys.Result c) class)
        (in_if (keys.Result c) (class_in (m.0).result) class m.2))))
    in_list (keys.Loop c l k) class h =
        let m = and_then_some (λ (m : Method). option_and_then (λ (head : Loop). variable_class_at p m head k) (slice_get m.loops l))
        (method_at p reached c) class h in
        let head = and_then_some (λ (head : Loop). variable_class_at p m.0 head k) (slice_get (m.0).loops l) class m.2 in
        of_contexts (entry (keys.Loop c l k) class) (in_contexts c m.0 (entry (keys.Loop c l k) class) m.1
        (Contains-append_right (param_entries c (param_types m.0)) (entry_if (keys.Result c) (class_in (m.0).result) ++ loops_entries p c
        m.0 (m.0).loops) (entry (keys.Loop c l k) class)
        (Contains-append_right (entry_if (keys.Result c) (class_in (m.0).result)) (loops_entries p c m.0 (m.0).loops)
        (entry (keys.Loop c l k) class)
        (in_listed (loop_entries p c m.0) (m.0).loops l head.0 (entry (keys.Loop c l k) class) head.1
        (in_loop c l k m.0 head.0 class head.2)))))
