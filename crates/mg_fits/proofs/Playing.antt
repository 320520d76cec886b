-- Where no condition of fitting is at fault, the sources are quiet, but for the `main` of each role, which makes one object of its class.
use Rattle.std.proofs.Common.{◌≡◌, ◌≢◌, ℕ, zero, suc, Bool, true, false, true≢false, List, [], ◌∷◌, ◌++◌, map}
use Rattle.std.proofs.Common.{Option, Some, None}
use Rattle.std.proofs.Common.{refl, sym, ap, ◌∙◌, subst, slice_get, option_map, option_and_then, Contains, flat_map, ◌||◌, ◌&&◌}
use Rattle.std.specs.Prelude.{if◌then◌else◌, cond, find, unwrap_or}
use Rattle.std.specs.List.{AllByRecursion}
use Rattle.std.specs.Str.{bytes_eq}
use Rattle.std.proofs.lemmas.Slice.Eq.{bytes_eq-Decides}
use Rattle.std.proofs.lemmas.List.Elements.{Contains-append_left, Contains-append_right}
use Rattle.std.proofs.lemmas.List.{map-append}
use Rattle.mg_text.specs.Call.{Name}
use Rattle.mg_text.specs.declared.place.Place.{Place}
use Rattle.mg_read.specs.First.{behind, with_earlier}
use Rattle.scr_tree.specs.Protocol.{Parts, Send, Take}
use Rattle.ts_tree.specs.Typestate.{Typestate}
use Rattle.jv_tree.specs.declared.tree.Param.{Param}
use Rattle.jv_tree.specs.Source.{Method, Class}
use Rattle.jv_meaning.specs.Program.{classes_of, class_named}
use Rattle.jv_meaning.specs.Names.{is_main}
use Rattle.jv_meaning.specs.Names as meant
use Rattle.jv_rules.specs.Program.{Program, is_of_protocol}
use Rattle.jv_rules.specs.Scope as typed
use Rattle.jv_rules.proofs.Tests.{in_first, in_later}
use Rattle.jv_core.specs.Tree as Core
use Rattle.jv_core.specs.Conditions.{IsCore, IsMethod as IsCoreMethod}
use Rattle.jv_core.specs.Lookup.{text_at, class_text, class_numbered}
use Rattle.jv_core.specs.Lookup as looks
use Rattle.jv_core.specs.Meaning.{main_of}
use Rattle.jv_names.specs.Resolves.{Owned, IsClass, MethodIs, Resolves}
use Rattle.jv_names.proofs.Clean.{all_left, all_right}
use Rattle.jv_names.proofs.Declared.{got_in}
use Rattle.jv_names.proofs.Lookups.{owned_by}
use Rattle.jv_names.proofs.Main.{class_stands, mains_are_the_same}
use Rattle.jv_names.proofs.Naming.{kind_by}
use Rattle.jv_names.proofs.Owned.{number_of}
use Rattle.jv_names.proofs.Slots.{all_at, all_holds}
use Rattle.jv_names.proofs.Tables.{some_is, none_some, aligned_at, class_name, text_is}
use Rattle.stm_api.specs.Doings.{Doing, Passes, Asks}
use Rattle.stm_api.specs.Api as api
use Rattle.stm_acts.specs.Played.{role_class, HasRole}
use Rattle.stm_acts.specs.Ends.{HasRoles}
use Rattle.stm_acts.specs.Calm.{with_params, scope_of, EveryInAll, IsQuiet, IsNoRole, OnlyMainsPlay, MakesOne, MainPlaysOne}
use Rattle.vm_world_law.specs.declared.role.RoleMain.{RoleMain}
use Rattle.fit_uses.specs.declared.usage.Use.{Use}
use Rattle.fit_uses.specs.Uses.{uses_in_all, uses_beside_making}
use Rattle.mg_fits.specs.Parts.{is_role_class, has_role_class, role_of_main, uses_of_method, own_uses}
use Rattle.mg_fits.proofs.Calm.{IsFree, AreFree, calm_in_all, making}
use Rattle.mg_fits.proofs.Sourced.{seen, Known, NoRole, quiet_in_all, makes}

-- ---- lists

all_in_flat : {A B : Type 0} (P : B → Type 0) (f : A → List B) (xs : List A) → AllByRecursion P (flat_map f xs) → (n : ℕ) (x : A) →
    slice_get xs n ≡ Some x → AllByRecursion P (f x)
all_in_flat P f [] h n x e = absurd (none_some e)
all_in_flat P f (y ∷ xs) h zero x e = subst (λ z. AllByRecursion P (f z)) (some_is e) (all_left P (f y) (flat_map f xs) h)
all_in_flat P f (y ∷ xs) h (suc n) x e = all_in_flat P f xs (all_right P (f y) (flat_map f xs) h) n x e

found_at : {A : Type 0} (test : A → Bool) (xs : List A) (x : A) → find test xs ≡ Some x → (n : ℕ) × (slice_get xs n ≡ Some x)
found_at test [] x e = absurd (none_some e)
found_at {A} test (y ∷ xs) x e = go (test y) e (found_at test xs x)
  where
    go : (b : Bool) → cond b (Some y) (find test xs) ≡ Some x → (find test xs ≡ Some x → (n : ℕ) × (slice_get xs n ≡ Some x)) →
        (n : ℕ) × (slice_get (y ∷ xs) n ≡ Some x)
    go true e more = (0, e)
    go false e more = let w = more e in (suc w.0, w.1)

-- a name of a class of roles is that of one of them
any_named : (roles : List Name) (name : Name) → is_role_class roles name ≡ true → (me : Name) × Contains roles me × (role_class me ≡ name)
any_named [] name e = absurd (true≢false (sym e))
any_named (role ∷ roles) name e = go (bytes_eq (role_class role) name) refl e (any_named roles name)
  where
    go : (b : Bool) → bytes_eq (role_class role) name ≡ b → (b || is_role_class roles name) ≡ true →
        (is_role_class roles name ≡ true → (me : Name) × Contains roles me × (role_class me ≡ name)) →
        (me : Name) × Contains (role ∷ roles) me × (role_class me ≡ name)
    go true f e more = (role, in_first roles role, (bytes_eq-Decides (role_class role) name).0 f)
    go false f e more = let w = more e in (w.0, in_later roles role w.0 w.1, w.2)

no_role_class : (roles : List Name) (name : Name) → IsNoRole roles name → is_role_class roles name ≡ false
no_role_class roles name none = go (is_role_class roles name) refl
  where
    go : (b : Bool) → is_role_class roles name ≡ b → b ≡ false
    go true e = let w = any_named roles name e in absurd (none w.0 w.1 (sym w.2))
    go false e = refl

-- ---- each class plays one role

-- a class of an earlier role
abbrev pub Shares : List RoleMain × RoleMain → Type 0
Shares (earlier, main) = Contains (map (λ (other : RoleMain). other.class) earlier) main.class

-- no role has the class of an earlier one
abbrev pub Differ : List (List RoleMain × RoleMain) → Type 0
Differ qs = AllByRecursion (λ q. Shares q → ⊥) qs

later_differs : (before ms : List RoleMain) → Differ (behind before ms) → (c : Name) →
    Contains (map (λ (other : RoleMain). other.class) before) c → (r : ℕ) (main : RoleMain) → slice_get ms r ≡ Some main →
    main.class ≡ c → ⊥
later_differs before [] h c has r main at e = none_some at
later_differs before (m ∷ ms) h c has zero main at e =
    h.0 (subst (Contains (map (λ (other : RoleMain). other.class) before)) (sym (ap (λ (x : RoleMain). x.class) (some_is at) ∙ e)) has)
later_differs before (m ∷ ms) h c has (suc r) main at e =
    later_differs (before ++ m ∷ []) ms h.1 c
    (subst (λ l. Contains l c) (sym (map-append (λ (other : RoleMain). other.class) before (m ∷ [])))
    (Contains-append_left (map (λ (other : RoleMain). other.class) before) (m.class ∷ []) c has)) r main at e

first_of_class : (before ms : List RoleMain) → Differ (behind before ms) → (r : ℕ) (main : RoleMain) → slice_get ms r ≡ Some main →
    find (λ (other : RoleMain). bytes_eq other.class main.class) ms ≡ Some main
first_of_class before [] h r main at = absurd (none_some at)
first_of_class before (m ∷ ms) h zero main at =
    ap (λ b. cond b (Some m) (find (λ (other : RoleMain). bytes_eq other.class main.class) ms))
    ((bytes_eq-Decides m.class main.class).1 (ap (λ (x : RoleMain). x.class) (some_is at))) ∙ at
first_of_class before (m ∷ ms) h (suc r) main at = go (bytes_eq m.class main.class) refl
    (first_of_class (before ++ m ∷ []) ms h.1 r main at)
  where
    there : m.class ≡ main.class → Contains (map (λ (other : RoleMain). other.class) (before ++ m ∷ [])) main.class
    there e =
        subst (λ l. Contains l main.class) (sym (map-append (λ (other : RoleMain). other.class) before (m ∷ [])))
        (Contains-append_right (map (λ (other : RoleMain). other.class) before) (m.class ∷ []) main.class
        (subst (λ c. Contains (m.class ∷ []) c) e (in_first [] m.class)))

    go : (b : Bool) → bytes_eq m.class main.class ≡ b →
        find (λ (other : RoleMain). bytes_eq other.class main.class) ms ≡ Some main →
        cond b (Some m) (find (λ (other : RoleMain). bytes_eq other.class main.class) ms) ≡ Some main
    go true e more = absurd (later_differs (before ++ m ∷ []) ms h.1 main.class
        (there ((bytes_eq-Decides m.class main.class).0 e)) r main at refl)
    go false e more = more

-- ---- a generated class has no `main`

no_main_in : (place : Place) (me : Name) (ds : List Doing) → find is_main (map (api.method_of place me) ds) ≡ None
no_main_in place me [] = refl
no_main_in place me (Passes (Send q l k) ∷ ds) = no_main_in place me ds
no_main_in place me (Passes (Take q l k) ∷ ds) = no_main_in place me ds
no_main_in place me (Asks n q labels ∷ ds) = no_main_in place me ds

-- ---- what is visible where a body begins

params_seen : (ps : List Param) (sc : typed.Scope) →
    seen (typed.with_params ps sc) ≡ record (seen sc) { locals = with_params ps (seen sc).locals }
params_seen [] sc = refl
params_seen (p ∷ ps) sc = params_seen ps (typed.declare p.name p.ty sc)

class_kept : (ps : List Param) (sc : typed.Scope) → (typed.with_params ps sc).class ≡ sc.class
class_kept [] sc = refl
class_kept (p ∷ ps) sc = class_kept ps (typed.declare p.name p.ty sc)

main_same : (static args protocol : Bool) → looks.is_main (kind_by static args protocol) ≡ (static && args)
main_same true true protocol = refl
main_same true false protocol = refl
main_same false args true = refl
main_same false args false = refl

-- a class has its name in the core
module _ (program : Program) (core : Core.Program) (res : Resolves program core) where
  pub class_text_is : (name : Name) (c : ℕ) (class : Class) → class_named program.files name ≡ Some class →
      slice_get (classes_of program.files) c ≡ Some class → class_text core c ≡ Some name
  class_text_is name c class named at =
      let k = aligned_at res.classes c class at in
      ap (option_map (λ (k : Core.Class). text_at core k.name)) k.at
      ∙ ap Some (text_is program core res k.item.name class.name k.is.name ∙ class_name program.files name class named)

-- `mains` are the roles with their classes, `own` those that the files have protocols of, and `roles` are the same
module _ (program : Program) (core : Core.Program) (res : Resolves program core) (is_core : IsCore core) (roles own : List Name)
    (within : (me : Name) → Contains roles me → Contains own me) (wider : (me : Name) → Contains own me → Contains roles me)
    (mains : List RoleMain) (free : AreFree core (NoRole program core res roles) (own_uses own core mains)) where
  -- a method of a class that isn't of a role, and what stands for it
  record Stands (name : Name) (m : Method) : Type 0 where
    number : ℕ
    owner : Owned
    class : class_named program.files name ≡ Some owner.owner.class
    method : owner.method ≡ m
    item : Core.Method
    at : slice_get core.methods number ≡ Some item
    is : MethodIs program core owner item
    class_is : class_text core item.class ≡ Some name

  stands : (name : Name) (class : Class) → class_named program.files name ≡ Some class → (j : ℕ) (m : Method) →
      slice_get class.methods j ≡ Some m → Stands name m
  stands name class named j m at =
      let c = found_at (λ (k : Class). bytes_eq k.name name) (classes_of program.files) class named in
      let n = number_of program c.0 j class m c.1 at in
      let k = aligned_at res.methods n.0 (owned_by c.0 class m) n.1 in
      record {
        number = n.0;
        owner = owned_by c.0 class m;
        class = named;
        method = refl;
        item = k.item;
        at = k.at;
        is = k.is;
        class_is = ap (class_text core) k.is.class ∙ class_text_is program core res name c.0 class named c.1;
      }

  -- its uses are among those that are judged
  free_in : (name : Name) (m : Method) (s : Stands name m) → IsNoRole roles name →
      AreFree core (NoRole program core res roles) (uses_of_method core mains s.item)
  free_in name m s none =
      subst (λ b. AreFree core (NoRole program core res roles) (if b then [] else uses_of_method core mains s.item))
      (ap (λ t. unwrap_or (option_map (is_role_class own) t) false) s.class_is
      ∙ no_role_class own name (λ me has e. none me (wider me has) e))
      (all_in_flat (IsFree core (NoRole program core res roles))
      (λ method. if has_role_class own core method.class then [] else uses_of_method core mains method) core.methods free s.number s.item
      s.at)

  -- it is a `main` where its source is
  kind_is : (name : Name) (m : Method) (s : Stands name m) → looks.is_main s.item.kind ≡ is_main m
  kind_is name m s =
      ap looks.is_main s.is.kind
      ∙ main_same s.owner.method.is_static s.owner.method.takes_args (is_of_protocol program s.owner.owner.class s.owner.method.name)
      ∙ ap is_main s.method

  fine_in : (name : Name) (m : Method) (s : Stands name m) → IsCoreMethod core s.item
  fine_in name m s = all_holds (IsCoreMethod core) core.methods is_core.methods s.number s.item s.at

  -- where its body begins
  begins : (name : Name) (m : Method) (s : Stands name m) →
      seen (typed.with_params s.owner.method.params (typed.entered program s.owner.owner.class s.owner.method)) ≡ scope_of name m
  begins name m s =
      params_seen s.owner.method.params (typed.entered program s.owner.owner.class s.owner.method)
      ∙ ap (λ c. record {
        class = c;
        on_object = if s.owner.method.is_static then false else true;
        locals = with_params s.owner.method.params [];
      }) (class_name program.files name s.owner.owner.class s.class)
      ∙ ap (scope_of name) s.method

  known : (name : Name) (m : Method) (s : Stands name m) →
      Known program core res roles (typed.with_params s.owner.method.params (typed.entered program s.owner.owner.class s.owner.method))
  known name m s =
      let same = class_kept s.owner.method.params (typed.entered program s.owner.owner.class s.owner.method) in
      subst (λ (c : Class). class_named program.files c.name ≡ Some c) (sym same)
      (subst (λ n. class_named program.files n ≡ Some s.owner.owner.class)
      (sym (class_name program.files name s.owner.owner.class s.class)) s.class)

  -- ---- methods that are no `main`

  uses_are : (name : Name) (m : Method) (s : Stands name m) → is_main m ≡ false → uses_of_method core mains s.item ≡ uses_in_all s.item.body
  uses_are name m s e =
      ap (λ b. unwrap_or (option_and_then (λ class. uses_beside_making class s.item.body)
      (if b then option_and_then (λ role. class_numbered core (role_class role)) (role_of_main core mains s.item.class) else None))
      (uses_in_all s.item.body)) (kind_is name m s ∙ e)

  quiet_body : (name : Name) (m : Method) → Stands name m → IsNoRole roles name → is_main m ≡ false →
      EveryInAll (IsQuiet program.files roles) (scope_of name m) m.body
  quiet_body name m s none e =
      subst (λ (x : Method). EveryInAll (IsQuiet program.files roles) (scope_of name m) x.body) s.method
      (subst (λ sc. EveryInAll (IsQuiet program.files roles) sc s.owner.method.body) (begins name m s)
      (quiet_in_all program core res roles s.item
      (typed.with_params s.owner.method.params (typed.entered program s.owner.owner.class s.owner.method)) (known name m s)
      s.owner.method.body s.is.body
      (calm_in_all core (NoRole program core res roles) s.item s.item.body (fine_in name m s).body
      (subst (AreFree core (NoRole program core res roles)) (uses_are name m s e) (free_in name m s none)))))

  pub only_mains_play : OnlyMainsPlay program.files roles
  only_mains_play = record {
    others = λ name class named none. all_at
        (λ (m : Method). is_main m ≡ false → EveryInAll (IsQuiet program.files roles) (scope_of name m) m.body) class.methods
        (λ j m at e. quiet_body name m (stands name class named j m at) none e);
  }

  -- ---- the `main` of a role

  module _ (differ : Differ (with_earlier mains)) {typestates : List Typestate} {protocols : Name → Parts}
      (has : HasRoles program.files typestates roles protocols) (r : ℕ) (main : RoleMain) (at : slice_get mains r ≡ Some main)
      (its_main : main_of core main.class ≢ None)
      (makes_one : (k : Core.Method) → Contains core.methods k → looks.is_main k.kind ≡ true → class_text core k.class ≡ Some main.class →
      ((class : ℕ) → class_numbered core (role_class main.role) ≡ Some class → uses_beside_making class k.body ≡ None) → ⊥)
    where
      plain : IsNoRole roles main.class
      plain you has_you e =
          let role : HasRole program.files typestates you (protocols you) = has you has_you in
          its_main ((mains_are_the_same program core res main.class).none_there
          (ap (λ (c : Option Class). option_map (meant.method_in main.class) (option_and_then (λ (k : Class). find is_main k.methods) c))
          (ap (class_named program.files) e ∙ role.class)
          ∙ ap (option_map (meant.method_in main.class)) (no_main_in role.place you role.firsts)))

      role_is : (name : Option Name) → name ≡ Some main.class →
          option_and_then (λ name. option_map (λ (x : RoleMain). x.role) (find (λ (x : RoleMain). bytes_eq x.class name) mains)) name
          ≡ Some main.role
      role_is name e =
          ap (option_and_then (λ name. option_map (λ (x : RoleMain). x.role) (find (λ (x : RoleMain). bytes_eq x.class name) mains))) e
          ∙ ap (option_map (λ (x : RoleMain). x.role)) (first_of_class [] mains differ r main at)

      -- the uses beside the making
      record Made (k : Core.Method) : Type 0 where
        class : ℕ
        numbered : class_numbered core (role_class main.role) ≡ Some class
        uses : List Use
        are : uses_beside_making class k.body ≡ Some uses
        all : uses_of_method core mains k ≡ uses

      made : (m : Method) (s : Stands main.class m) → is_main m ≡ true → Made s.item
      made m s e = by_class (class_numbered core (role_class main.role)) refl
        where
          is_a_main : looks.is_main s.item.kind ≡ true
          is_a_main = kind_is main.class m s ∙ e

          nothing : ((class : ℕ) → class_numbered core (role_class main.role) ≡ Some class →
              uses_beside_making class s.item.body ≡ None) → ⊥
          nothing none = makes_one s.item (got_in core.methods s.number s.item s.at) is_a_main s.class_is none

          by_uses : (class : ℕ) → class_numbered core (role_class main.role) ≡ Some class → (us : Option (List Use)) →
              uses_beside_making class s.item.body ≡ us → Made s.item
          by_uses class n None f =
              absurd (nothing (λ c g. subst (λ x. uses_beside_making x s.item.body ≡ None) (some_is (sym n ∙ g)) f))
          by_uses class n (Some us) f = record {
            class = class;
            numbered = n;
            uses = us;
            are = f;
            all = ap (λ b. unwrap_or (option_and_then (λ class. uses_beside_making class s.item.body)
                (if b then option_and_then (λ role. class_numbered core (role_class role)) (role_of_main core mains s.item.class)
                else None))
                (uses_in_all s.item.body)) is_a_main
                ∙ ap (λ o. unwrap_or (option_and_then (λ class. uses_beside_making class s.item.body)
                (option_and_then (λ role. class_numbered core (role_class role)) o)) (uses_in_all s.item.body))
                (role_is (class_text core s.item.class) s.class_is)
                ∙ ap (λ o. unwrap_or (option_and_then (λ class. uses_beside_making class s.item.body) o) (uses_in_all s.item.body)) n
                ∙ ap (λ o. unwrap_or o (uses_in_all s.item.body)) f;
          }

          by_class : (c : Option ℕ) → class_numbered core (role_class main.role) ≡ c → Made s.item
          by_class None f = absurd (nothing (λ c g. absurd (none_some (sym f ∙ g))))
          by_class (Some c) f = by_uses c f (uses_beside_making c s.item.body) refl

      role_numbered : (c : ℕ) → class_numbered core (role_class main.role) ≡ Some c → IsClass program core (role_class main.role) c
      role_numbered c e =
          let s = class_stands program core res (role_class main.role) res.classes c e in
          record { class = s.class; named = s.named; at = s.at }

      main_body : (m : Method) → Stands main.class m → is_main m ≡ true →
          MakesOne program.files roles (role_class main.role) (scope_of main.class m) m.body
      main_body m s e =
          let k = made m s e in
          subst (λ (x : Method). MakesOne program.files roles (role_class main.role) (scope_of main.class m) x.body) s.method
          (subst (λ sc. MakesOne program.files roles (role_class main.role) sc s.owner.method.body) (begins main.class m s)
          (makes program core res roles s.item k.class (role_class main.role) (role_numbered k.class k.numbered)
          (typed.with_params s.owner.method.params (typed.entered program s.owner.owner.class s.owner.method)) (known main.class m s)
          s.owner.method.body s.is.body
          (making core (NoRole program core res roles) s.item k.class s.item.body (fine_in main.class m s).body k.uses k.are
          (subst (AreFree core (NoRole program core res roles)) k.all (free_in main.class m s plain)))))

      pub main_plays_one : MainPlaysOne program.files roles main.role main.class
      main_plays_one = record {
        plain = plain;
        main = λ c named. all_at
            (λ (m : Method). is_main m ≡ true → MakesOne program.files roles (role_class main.role) (scope_of main.class m) m.body)
            c.methods
            (λ j m there e. main_body m (stands main.class c named j m there) e);
      }
