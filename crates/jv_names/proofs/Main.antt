-- `main` of a class is the same method in the core and in the source, so programs mean the same.
use Rattle.std.proofs.Common.{◌≡◌, ◌≢◌, ℕ, suc, ◌+◌, Bool, true, false, cond, List, [], ◌∷◌, Option, Some, None, option_map}
use Rattle.std.proofs.Common.{option_and_then, slice_get, refl, sym, ap, ◌∙◌, subst, ⊎_elim, arith, true≢false}
use Rattle.std.specs.Prelude.{if◌then◌else◌, find, position, nat_eq, ◌&&◌}
use Rattle.std.specs.Str.{bytes_eq}
use Rattle.std.proofs.lemmas.Bool.Decides.{nat_tests}
use Rattle.mg_text.specs.Call.{Name}
use Rattle.jv_tree.specs.Source
use Rattle.jv_values.specs.Values.{Value, Shared, Wrong, Done}
use Rattle.jv_values.specs.Values as values
use Rattle.jv_values.specs.Doing.{Outcome, Gives, Ends}
use Rattle.jv_values.specs.Budget.{below, ended, ran}
use Rattle.jv_values.specs.Alike.{Alike, SameEnd}
use Rattle.jv_meaning.specs.Program.{classes_of, class_named}
use Rattle.jv_meaning.specs.Names as names
use Rattle.jv_meaning.specs.Meaning as meant
use Rattle.jv_rules.specs.Program.{Program, is_of_protocol}
use Rattle.jv_core.specs.Tree as Core
use Rattle.jv_core.specs.declared.program.MethodKind.TheVariants as kinds
use Rattle.jv_core.specs.Lookup.{text_at, class_numbered, is_main}
use Rattle.jv_core.specs.Meaning as core_meaning
use Rattle.jv_names.specs.Resolves.{Aligned, none, more, Owned, methods_of, ClassIs, MethodIs, Resolves}
use Rattle.jv_names.specs.Laws.{MainsAreTheSame, MeansTheSame}
use Rattle.jv_values.proofs.Positions.{position_is}
use Rattle.jv_names.proofs.Tables.{some_is, none_some, aligned_at, text_is}
use Rattle.jv_names.proofs.Lookups.{owned_by, found_in_class}
use Rattle.jv_names.proofs.Calls.{runs_like, belows_like}

-- Searches.

some_none : {A : Type 0} {a : A} → Some a ≡ None → ⊥
some_none e = cc

map_none : {A B : Type 0} (f : A → B) (o : Option A) → option_map f o ≡ None → o ≡ None
map_none f None e = refl
map_none f (Some a) e = absurd (some_none e)

-- where the first class of a name stands in the core, the source has it
pub record Stands (cs : List Source.Class) (name : Name) (c : ℕ) : Type 0 where
  pub class : Source.Class
  pub named : find (λ (k : Source.Class). bytes_eq k.name name) cs ≡ Some class
  pub at : slice_get cs c ≡ Some class

-- a method that is the first `main` of its class
record OfClass (class : Source.Class) (o : Owned) : Type 0 where
  owner : o.owner.class ≡ class
  first : find names.is_main class.methods ≡ Some o.method

of_the_class : (c : ℕ) (class : Source.Class) (o : Owned) (q : Option Source.Method) → find names.is_main class.methods ≡ q → option_map
    (owned_by c class) q ≡ Some o → OfClass class o
of_the_class c class o None p f = absurd (none_some f)
of_the_class c class o (Some m) p f = record {
  owner = ap (λ (o : Owned). o.owner.class) (sym (some_is f));
  first = p ∙ ap (λ (o : Owned). Some o.method) (some_is f);
}

module _ (program : Program) (core : Core.Program) (res : Resolves program core) where
  pub class_stands : (name : Name) {cs : List Source.Class} {ks : List Core.Class} → Aligned (ClassIs program core) cs ks → (c : ℕ) →
      position (λ k. bytes_eq (text_at core k.name) name) ks ≡ Some c → Stands cs name c
  class_stands name none c e = absurd (none_some e)
  class_stands name (more {a = a} {b = k} {as' = cs} {bs = ks} is rest) c e =
      go (bytes_eq a.name name) refl (class_stands name rest)
      (ap (λ x. cond (bytes_eq x name) (Some 0) (option_map suc (position (λ k. bytes_eq (text_at core k.name) name) ks)))
      (sym (text_is program core res k.name a.name is.name))
      ∙ sym (position_is (λ (k : Core.Class). bytes_eq (text_at core k.name) name) k ks) ∙ e)
    where
      go : (t : Bool) → bytes_eq a.name name ≡ t → ((c : ℕ) → position (λ k. bytes_eq (text_at core k.name) name) ks ≡ Some c →
          Stands cs name c) →
          cond t (Some 0) (option_map suc (position (λ k. bytes_eq (text_at core k.name) name) ks)) ≡ Some c → Stands (a ∷ cs) name c
      go true p later e = record {
        class = a;
        named = ap (λ t. cond t (Some a) (find (λ (k : Source.Class). bytes_eq k.name name) cs)) p;
        at = subst (λ c. slice_get (a ∷ cs) c ≡ Some a) (some_is e) refl;
      }
      go false p later e = behind (position (λ k. bytes_eq (text_at core k.name) name) ks) (later) e
        where
          behind : (o : Option ℕ) → ((c : ℕ) → o ≡ Some c → Stands cs name c) → option_map suc o ≡ Some c → Stands (a ∷ cs) name c
          behind None later e = absurd (none_some e)
          behind (Some i) later e =
              let w = later i refl in
              record {
                class = w.class;
                named = ap (λ t. cond t (Some a) (find (λ (k : Source.Class). bytes_eq k.name name) cs)) p ∙ w.named;
                at = subst (λ c. slice_get (a ∷ cs) c ≡ Some w.class) (some_is e) w.at;
              }

  -- the first `main` of a class in the core

  abbrev is_main_of : ℕ → Owned → Bool
  is_main_of c o = nat_eq o.owner.number c && (o.method.is_static && o.method.takes_args)

  main_kind : (st ta pr : Bool) → is_main
      (elim st [
        | true ↦ elim ta [ true ↦ kinds.Main | false ↦ kinds.Static ]
        | false ↦
            elim pr [ true ↦ kinds.Protocol | false ↦ kinds.Helper ]
      ]) ≡ (st && ta)
  main_kind true true pr = refl
  main_kind true false pr = refl
  main_kind false ta true = refl
  main_kind false ta false = refl

  test_same : (c : ℕ) (o : Owned) (k : Core.Method) → MethodIs program core o k → (nat_eq k.class c && is_main k.kind) ≡ is_main_of c o
  test_same c o k is =
      ap (λ n. nat_eq n c && is_main k.kind) is.class
      ∙ ap (λ t. nat_eq o.owner.number c && t) (ap is_main is.kind ∙ main_kind o.method.is_static o.method.takes_args
      (is_of_protocol program o.owner.class o.method.name))

  number_is : (n c : ℕ) (t : Bool) → (nat_eq n c && t) ≡ true → n ≡ c
  number_is n c t e = go (nat_eq n c) refl e
    where
      go : (u : Bool) → nat_eq n c ≡ u → (u && t) ≡ true → n ≡ c
      go true p e = grind (arith, nat_tests)
      go false p e = absurd (true≢false (sym e))

  record Mains (os : List Owned) (ks : List Core.Method) (c n : ℕ) (run : values.Method ℕ core_meaning.Code) : Type 0 where
    index : ℕ
    owned : Owned
    method : Core.Method
    here : slice_get ks index ≡ Some method
    is : MethodIs program core owned method
    runs : run ≡ core_meaning.as_run core (n + index) method
    class : method.class ≡ c
    first : find (is_main_of c) os ≡ Some owned

  mains : (c : ℕ) {os : List Owned} {ks : List Core.Method} → Aligned (MethodIs program core) os ks → (n : ℕ)
      (run : values.Method ℕ core_meaning.Code) →
      core_meaning.main_in core c n ks ≡ Some run → Mains os ks c n run
  mains c none n run e = absurd (none_some e)
  mains c (more {a = o} {b = k} {as' = os} {bs = ks} is rest) n run e =
      go (is_main_of c o) refl (mains c rest (suc n) run)
      (ap (λ t. if t then Some (core_meaning.as_run core n k) else core_meaning.main_in core c (suc n) ks) (sym (test_same c o k is)) ∙ e)
    where
      go : (t : Bool) → is_main_of c o ≡ t → (core_meaning.main_in core c (suc n) ks ≡ Some run → Mains os ks c (suc n) run) →
          (if t then Some (core_meaning.as_run core n k) else core_meaning.main_in core c (suc n) ks) ≡ Some run → Mains (o ∷ os)
          (k ∷ ks) c n run
      go true p later e = record {
        index = 0;
        owned = o;
        method = k;
        here = refl;
        is = is;
        runs = sym (some_is e) ∙ ap (λ n. core_meaning.as_run core n k) (omega arith);
        class = is.class ∙ number_is o.owner.number c (o.method.is_static && o.method.takes_args) p;
        first = ap (λ t. cond t (Some o) (find (is_main_of c) os)) p;
      }
      go false p later e =
          let w = later e in
          record {
            index = suc w.index;
            owned = w.owned;
            method = w.method;
            here = w.here;
            is = w.is;
            runs = w.runs ∙ ap (λ n. core_meaning.as_run core n w.method) (omega arith);
            class = w.class;
            first = ap (λ t. cond t (Some o) (find (is_main_of c) os)) p ∙ w.first;
          }

  -- The core has `main` exactly where the source has it.

  -- `main` of a class in the core, and in the source
  record MainAt (name : Name) (run : values.Method ℕ core_meaning.Code) : Type 0 where
    number : ℕ
    stands : Stands (classes_of program.files) name number
    mains : Mains (methods_of program) core.methods number 0 run
    owner : OfClass stands.class mains.owned

  main_at : (name : Name) (run : values.Method ℕ core_meaning.Code) → core_meaning.main_of core name ≡ Some run → MainAt name run
  main_at name run e = go (class_numbered core name) refl e
    where
      go : (c : Option ℕ) → class_numbered core name ≡ c → option_and_then (λ c. core_meaning.main_in core c 0 core.methods) c ≡ Some run →
          MainAt name run
      go None at f = absurd (none_some f)
      go (Some c) at f =
          let stands = class_stands name res.classes c at in
          let m = mains c res.methods 0 run f in
          record {
            number = c;
            stands = stands;
            mains = m;
            owner = of_the_class c stands.class m.owned (find names.is_main stands.class.methods) refl
                (sym (found_in_class c 0 c names.is_main (classes_of program.files) stands.class stands.at (omega arith)) ∙ m.first);
          }

  -- `main` of the first class of a name, where it is this
  abbrev main_in_class : Name → Option Source.Class → Option (values.Method Name Source.Stmt)
  main_in_class name q = option_map (names.method_in name) (option_and_then (λ (k : Source.Class). find names.is_main k.methods) q)

  source_main : (name : Name) (run : values.Method ℕ core_meaning.Code) (m : MainAt name run) →
      names.main_of program.files name ≡ Some (names.method_in name m.mains.owned.method)
  source_main name run m = ap (main_in_class name) m.stands.named ∙ ap (option_map (names.method_in name)) m.owner.first

  no_class : (name : Name) {cs : List Source.Class} {ks : List Core.Class} → Aligned (ClassIs program core) cs ks →
      position (λ (k : Core.Class). bytes_eq (text_at core k.name) name) ks ≡ None →
      find (λ (k : Source.Class). bytes_eq k.name name) cs ≡ None
  no_class name none e = refl
  no_class name (more {a = a} {b = k} {as' = cs} {bs = ks} is rest) e =
      go (bytes_eq a.name name) (no_class name rest)
      (ap (λ x. cond (bytes_eq x name) (Some 0) (option_map suc (position (λ k. bytes_eq (text_at core k.name) name) ks)))
      (sym (text_is program core res k.name a.name is.name))
      ∙ sym (position_is (λ (k : Core.Class). bytes_eq (text_at core k.name) name) k ks) ∙ e)
    where
      go : (t : Bool) →
          (position (λ (k : Core.Class). bytes_eq (text_at core k.name) name) ks ≡ None →
          find (λ (k : Source.Class). bytes_eq k.name name) cs ≡ None) →
          cond t (Some 0) (option_map suc (position (λ (k : Core.Class). bytes_eq (text_at core k.name) name) ks)) ≡ None →
          cond t (Some a) (find (λ (k : Source.Class). bytes_eq k.name name) cs) ≡ None
      go true later e = absurd (some_none e)
      go false later e = later (map_none suc _ e)

  no_main : (c : ℕ) {os : List Owned} {ks : List Core.Method} → Aligned (MethodIs program core) os ks → (n : ℕ) →
      core_meaning.main_in core c n ks ≡ None → find (is_main_of c) os ≡ None
  no_main c none n e = refl
  no_main c (more {a = o} {b = k} {as' = os} {bs = ks} is rest) n e =
      go (is_main_of c o) (no_main c rest (suc n))
      (ap (λ t. if t then Some (core_meaning.as_run core n k) else core_meaning.main_in core c (suc n) ks) (sym (test_same c o k is)) ∙ e)
    where
      go : (t : Bool) → (core_meaning.main_in core c (suc n) ks ≡ None → find (is_main_of c) os ≡ None) →
          (if t then Some (core_meaning.as_run core n k) else core_meaning.main_in core c (suc n) ks) ≡ None →
          cond t (Some o) (find (is_main_of c) os) ≡ None
      go true later e = absurd (some_none e)
      go false later e = later e

  none_here : (name : Name) → core_meaning.main_of core name ≡ None → names.main_of program.files name ≡ None
  none_here name e = go (class_numbered core name) refl e
    where
      go : (c : Option ℕ) → class_numbered core name ≡ c → option_and_then (λ c. core_meaning.main_in core c 0 core.methods) c ≡ None →
          names.main_of program.files name ≡ None
      go None at f = ap (main_in_class name) (no_class name res.classes at)
      go (Some c) at f =
          let stands = class_stands name res.classes c at in
          ap (main_in_class name) stands.named
          ∙ ap (option_map (names.method_in name)) (map_none (owned_by c stands.class) _
          (sym (found_in_class c 0 c names.is_main (classes_of program.files) stands.class stands.at (omega arith))
          ∙ no_main c res.methods 0 f))

  none_there : (name : Name) → names.main_of program.files name ≡ None → core_meaning.main_of core name ≡ None
  none_there name e = go (core_meaning.main_of core name) refl
    where
      go : (o : Option (values.Method ℕ core_meaning.Code)) → core_meaning.main_of core name ≡ o → core_meaning.main_of core name ≡ None
      go None f = f
      go (Some run) f = absurd (some_none (sym (source_main name run (main_at name run f)) ∙ e))

ends_alike : (o p : Outcome Shared (Option Value)) → Alike ◌≡◌ ◌≡◌ SameEnd o p → (ended o).finish ≢ Wrong → ended p ≡ ended o
ends_alike (Gives v s) (Gives w t) a ok = ap (λ u. record { events = u.events; finish = Done }) (sym a.1)
ends_alike (Gives v s) (Ends f es) a ok = absurd a
ends_alike (Ends f es) p a ok = ⊎_elim (λ w. absurd (ok w)) (λ same. ap ended same) a

pub mains_are_the_same : MainsAreTheSame
mains_are_the_same program core res class = record {
  none_here = none_here program core res class;
  none_there = none_there program core res class;
}

pub means_the_same : MeansTheSame
means_the_same program core res class inputs n ok = by_main (core_meaning.main_of core class) refl
  where
    by_main : (o : Option (values.Method ℕ core_meaning.Code)) → core_meaning.main_of core class ≡ o →
        meant.mean program.files class inputs n ≡ core_meaning.cmean core class inputs n
    by_main None e =
        ap (λ q. ran (meant.language program.files inputs) q n) (none_here program core res class e)
        ∙ ap (λ q. ran (core_meaning.language core inputs) q n) (sym e)
    by_main (Some run) e =
        let at = main_at program core res class run e in
        let m = at.mains in
        let k = aligned_at res.classes at.number at.stands.class at.stands.at in
        let named : class_named program.files class ≡ Some m.owned.owner.class = at.stands.named ∙ ap Some (sym at.owner.owner) in
        let alike = runs_like program core res inputs (below (core_meaning.language core inputs) n)
        (below (meant.language program.files inputs) n) (belows_like program core res inputs n)
        class m.index m.owned m.method k.item m.is m.here (ap (slice_get core.classes) m.class ∙ k.at)
        (subst (λ d. ClassIs program core d k.item) (sym at.owner.owner) k.is) named None [] in
        let core_is : core_meaning.main_of core class ≡ Some (core_meaning.as_run core m.index m.method) = e ∙ ap Some
        (m.runs ∙ ap (λ i. core_meaning.as_run core i m.method) (omega arith)) in
        ap (λ q. ran (meant.language program.files inputs) q n) (source_main program core res class run at)
        ∙ ends_alike _ _ (alike.by (record { heap = []; events = [] }) (record { heap = []; events = [] }) refl)
        (λ w. ok (λ without. some_none (sym e ∙ without)) (ap (λ q. (ran (core_meaning.language core inputs) q n).finish) core_is ∙ w))
        ∙ ap (λ q. ran (core_meaning.language core inputs) q n) (sym core_is)
