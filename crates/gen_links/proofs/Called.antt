-- Linking finds the methods and constructors of a program's classes under their names.
use Rattle.std.proofs.Common.{◌≡◌, ℕ, zero, suc, ◌+◌, ◌<◌, Bool, true, false, ◌&&◌, not, List, [], ◌∷◌, ◌++◌, length}
use Rattle.std.proofs.Common.{map, get_or, Option, Some, None, Contains, slice_get, filter_map, filter, position}
use Rattle.std.proofs.Common.{nat_eq, refl, sym, ap, ap₂, ◌∙◌, subst, arith, if◌then◌else◌, codes}
use Rattle.std.specs.List.{AllByRecursion}
use Rattle.std.proofs.lemmas.Bool.Decides.{nat_tests}
use Rattle.mg_text.specs.Call.{Name}
use Rattle.ts_tree.specs.Proper.{AreDistinct}
use Rattle.cls_tree.specs.Pool.{Reference}
use Rattle.vm_model.specs.Program as machine
use Rattle.vm_model.specs.Linked.{fits_code}
use Rattle.vm_model.specs.Links.{Outline, is_member, is_static, built_in}
use Rattle.vm_model.specs.Links.{built_members, member_args, named_args, loaded_member, method_of_class, args_by, method_types}
use Rattle.jv_core.specs.declared.program.MethodKind.{MethodKind}
use Rattle.jv_core.specs.declared.program.MethodKind.TheVariants as kinds
use Rattle.jv_core.specs.Tree.{Class, Method, Program}
use Rattle.jv_core.specs.Lookup.{text_at}
use Rattle.jv_core.specs.Numbering.{methods_of}
use Rattle.jv_core.specs.Conditions.{IsCore, IsMethod}
use Rattle.gen_rules.specs.Symbolic.{Instr}
use Rattle.gen_rules.specs.Members.{member, class_name, method_member, method_reference}
use Rattle.gen_rules.specs.Members.{method_descriptor, init_of, init_name, init_descriptor}
use Rattle.gen_rules.specs.Classes.{Compiled, compiled, access_of, constructor}
use Rattle.gen_rules.specs.Classes.{constructors, methods_in, AreCompiled, AreCompiledClasses}
use Rattle.gen_rules.specs.Linked.{declared_method}
use Rattle.gen_links.specs.Known.{NamesMethod, IsCalledBy}
use Rattle.gen_links.specs.Files.{IsPlainName, HasPlainNames}
use Rattle.gen_links.proofs.Apart.{plain_at, at_once, other_than, not_object, not_string}
use Rattle.gen_links.proofs.Apart.{not_print_stream, not_session, passes_at, some_is, slice_get-map}
use Rattle.gen_links.proofs.Described.{class_known, descriptor_good, init_described}
use Rattle.gen_links.proofs.Looked.{At, here, class_at, named_class, plain_class, member_named, same_text, names_by}

-- The methods of a class are those that say so, in their order.

pub methods_filtered : (whole : List Method) (c n : ℕ) (ms : List Method) →
    ((i : ℕ) (m : Method) → slice_get ms i ≡ Some m → slice_get whole (n + i) ≡ Some m) →
    filter_map (slice_get whole) (methods_of c n ms) ≡ filter (λ m. nat_eq m.class c) ms
methods_filtered whole c n [] h = refl
methods_filtered whole c n (m ∷ ms) h =
    go (nat_eq m.class c) refl (methods_filtered whole c (suc n) ms (λ i x e.
    let same : n + suc i ≡ suc n + i = omega arith in subst (λ y. slice_get whole y ≡ Some x) same (h (suc i) x e)))
  where
    first : slice_get whole n ≡ Some m
    first = let same : n + 0 ≡ n = omega arith in subst (λ y. slice_get whole y ≡ Some m) same (h 0 m refl)

    go : (b : Bool) → nat_eq m.class c ≡ b → filter_map (slice_get whole) (methods_of c (suc n) ms) ≡ filter (λ x. nat_eq x.class c) ms →
        filter_map (slice_get whole) (methods_of c n (m ∷ ms)) ≡ filter (λ x. nat_eq x.class c) (m ∷ ms)
    go true e rest = rw (e, first) (ap (λ xs. m ∷ xs) rest)
    go false e rest = rw e rest

-- a method of the class is among them
pub record Among (ms : List Method) (m : Method) : Type 0 where
  pub number : ℕ
  pub at : slice_get ms number ≡ Some m

pub among : (c : ℕ) (ms : List Method) (n : ℕ) (m : Method) → slice_get ms n ≡ Some m → nat_eq m.class c ≡ true →
    Among (filter (λ x. nat_eq x.class c) ms) m
among c [] n m e t = absurd cc
among c (x ∷ ms) zero m e t =
    let is : nat_eq x.class c ≡ true = ap (λ y. nat_eq y.class c) (some_is e) ∙ t in
    record { number = 0; at = rw is e }
among c (x ∷ ms) (suc n) m e t = go (nat_eq x.class c) refl (among c ms n m e t)
  where
    go : (b : Bool) → nat_eq x.class c ≡ b → Among (filter (λ y. nat_eq y.class c) ms) m →
        Among (filter (λ y. nat_eq y.class c) (x ∷ ms)) m
    go true f rest = record { number = suc rest.number; at = rw f rest.at }
    go false f rest = record { number = rest.number; at = rw f rest.at }

-- Compiled methods, by their names.

compiled_names : (p : Program) (ms : List Method) (cs : List Compiled) → AreCompiled p ms cs →
    map (λ d. d.name) (map declared_method cs) ≡ map (λ m. text_at p m.name) ms
compiled_names p [] [] h = refl
compiled_names p [] (c ∷ cs) h = absurd h
compiled_names p (m ∷ ms) [] h = absurd h
compiled_names p (m ∷ ms) (c ∷ cs) h = ap₂ (λ x xs. x ∷ xs) (ap (λ x. x.name) (h.0).2) (compiled_names p ms cs h.1)

compiled_at : (p : Program) (ms : List Method) (cs : List Compiled) → AreCompiled p ms cs → (i : ℕ) (m : Method) →
    slice_get ms i ≡ Some m →
    (code : List Instr) × (slice_get cs i ≡ Some (compiled p m code))
compiled_at p [] [] h i m e = absurd cc
compiled_at p [] (c ∷ cs) h i m e = absurd h
compiled_at p (x ∷ ms) [] h i m e = absurd h
compiled_at p (x ∷ ms) (c ∷ cs) h zero m e = ((h.0).0, ap Some ((h.0).2 ∙ ap (λ y. compiled p y (h.0).0) (some_is e)))
compiled_at p (x ∷ ms) (c ∷ cs) h (suc i) m e = compiled_at p ms cs h.1 i m e

pub plain_names : (p : Program) → HasPlainNames p → (ms : List Method) → AllByRecursion IsPlainName (map (λ m. text_at p m.name) ms)
plain_names p h [] = tt
plain_names p h (m ∷ ms) = (plain_at p.names h m.name, plain_names p h ms)

-- no method is called as a constructor is
not_init : IsPlainName init_name → ⊥
not_init h = (h.0).2 refl

plain_get : (xs : List Name) (k : ℕ) (d : Name) → AllByRecursion IsPlainName xs → k < length xs → IsPlainName (get_or xs k d)
plain_get [] k d h l = absurd (omega (arith, l))
plain_get (x ∷ xs) zero d h l = h.0
plain_get (x ∷ xs) (suc k) d h l = plain_get xs k d h.1 (omega (arith, l))

pub none_is_init : (xs : List Name) → AllByRecursion IsPlainName xs → Contains xs init_name → ⊥
none_is_init xs h c = not_init (subst IsPlainName c.2 (plain_get xs c.0 init_name h c.1))

-- No method of a program is one of a built-in class.

pub not_182 : (r : Reference) → IsPlainName r.class → built_in 182 r built_members ≡ None
not_182 r h = rw (
  other_than r.class (codes "java/lang/String") h not_string,
  other_than r.class
      (codes "java/io/PrintStream") h not_print_stream,
) refl

pub not_183 : (r : Reference) → IsPlainName r.class → built_in 183 r built_members ≡ None
not_183 r h = rw (other_than r.class (codes "java/lang/Object") h not_object) refl

pub not_184 : (r : Reference) → IsPlainName r.class → built_in 184 r built_members ≡ None
not_184 r h = rw (
  other_than r.class (codes "java/lang/String") h not_string,
  other_than r.class
      (codes "mungo/lib/Session") h not_session,
) refl

-- whether a method of this access is found as a static one, or as another
abbrev pub Fits : (static : Bool) → (access : ℕ) → Type 0
Fits static access = (if static then is_static access else not (is_static access)) ≡ true

module _ (p : Program) (core : IsCore p) (plain : HasPlainNames p) (all : List (List Compiled))
    (compiled_all : AreCompiledClasses p 0 p.classes all) where
  abbrev os : List Outline
  os = here p core plain all compiled_all

  module _ (c : ℕ) (k : Class) (at : slice_get p.classes c ≡ Some k) where
    abbrev it : At p c k os c
    it = class_at p core plain all compiled_all c k at

    in_class : methods_in p k ≡ filter (λ m. nat_eq m.class c) p.methods
    in_class =
        ap (filter_map (slice_get p.methods)) (core.classes c k at).methods
        ∙ methods_filtered p.methods c 0 p.methods (λ i m e. let same : i ≡ 0 + i
        = omega arith in subst (λ y. slice_get p.methods y ≡ Some m) same e)

    abbrev method_texts : List Name
    method_texts = map (λ d. d.name) (map declared_method it.compiled.methods)

    texts_are : method_texts ≡ map (λ m. text_at p m.name) (methods_in p k)
    texts_are = compiled_names p (methods_in p k) it.compiled.methods it.compiled.made

    texts_apart : AreDistinct method_texts
    texts_apart =
        subst AreDistinct (sym texts_are)
        (subst (λ ms. AreDistinct (map (λ m. text_at p m.name) ms)) (sym in_class) (core.classes c k at).methods_apart)

    texts_plain : AllByRecursion IsPlainName method_texts
    texts_plain = subst (AllByRecursion IsPlainName) (sym texts_are) (plain_names p plain (methods_in p k))

    all_apart : (t : Option ℕ) → AreDistinct (map (λ d. d.name) (map declared_method (constructors p c k t ++ it.compiled.methods)))
    all_apart None = texts_apart
    all_apart (Some t) = (none_is_init method_texts texts_plain, texts_apart)

    behind : (t : Option ℕ) (i : ℕ) (x : Compiled) → slice_get it.compiled.methods i ≡ Some x →
        (j : ℕ) × (slice_get (constructors p c k t ++ it.compiled.methods) j ≡ Some x)
    behind None i x e = (i, e)
    behind (Some t) i x e = (suc i, e)

    module _ (m : Method) (n : ℕ) (of : slice_get p.methods n ≡ Some m) (mine : nat_eq m.class c ≡ true) where
      abbrev called : Reference
      called = member (class_name p c) (text_at p m.name) (method_descriptor p m)

      method_position : (static : Bool) → Fits static (access_of m.kind) →
          (j : ℕ) × (position (is_member called.member static) (map declared_method it.methods) ≡ Some j)
      method_position static fits =
          let a = among c p.methods n m of mine in
          let in_methods : slice_get (methods_in p k) a.number ≡ Some m = ap (λ ms. slice_get ms a.number) in_class ∙ a.at in
          let made = compiled_at p (methods_in p k) it.compiled.methods it.compiled.made a.number m in_methods in
          let x = compiled p m made.0 in
          let stands = behind k.typestate a.number x made.1 in
          let ours = constructors p c k k.typestate ++ it.compiled.methods in
          let passes : is_member called.member static (declared_method x) ≡ true
          = ap₂ (λ y z. (y && z) && (if static then is_static (access_of m.kind) else not (is_static (access_of m.kind))))
          (same_text (text_at p m.name)) (same_text (method_descriptor p m)) ∙ fits in (
            stands.0,
            ap (λ xs. position (is_member called.member static) (map declared_method xs)) it.compiled.all_are
                ∙ passes_at (λ d. d.name) (is_member called.member static) (map declared_method ours) stands.0 (declared_method x)
                (all_apart k.typestate)
                (slice_get-map declared_method ours stands.0 x stands.1) passes (λ b t. member_named called.member static b t),
          )

      in_outline : (static : Bool) (f : Fits static (access_of m.kind)) →
          method_of_class called.member static (slice_get os c) ≡ Some (method_position static f).0
      in_outline static f = ap (method_of_class called.member static) it.outline ∙ (method_position static f).1

      found_182 : (f : Fits false (access_of m.kind)) → member_args os 182 called ≡ Some (machine.Method c (method_position false f).0)
      found_182 f =
          ap (named_args os 182 called) (not_182 called (plain_class p core plain all compiled_all c k at))
          ∙ ap (loaded_member os 182 called.member) (named_class p core plain all compiled_all c k at)
          ∙ ap (args_by (machine.Method c)) (in_outline false f)

      found_183 : (f : Fits false (access_of m.kind)) → member_args os 183 called ≡ Some (machine.Method c (method_position false f).0)
      found_183 f =
          ap (named_args os 183 called) (not_183 called (plain_class p core plain all compiled_all c k at))
          ∙ ap (loaded_member os 183 called.member) (named_class p core plain all compiled_all c k at)
          ∙ ap (args_by (machine.Method c)) (in_outline false f)

      found_184 : (f : Fits true (access_of m.kind)) → member_args os 184 called ≡ Some (machine.Method c (method_position true f).0)
      found_184 f =
          ap (named_args os 184 called) (not_184 called (plain_class p core plain all compiled_all c k at))
          ∙ ap (loaded_member os 184 called.member) (named_class p core plain all compiled_all c k at)
          ∙ ap (args_by (machine.Method c)) (in_outline true f)

      names_as : (count op : ℕ) (args : machine.Args) → IsMethod p m → member_args os op called ≡ Some args →
          fits_code count op args ≡ true →
          NamesMethod os count op called
      names_as count op args h found fits =
          names_by os count op called (method_types (text_at p m.name) (method_descriptor p m)) args
          (class_known p core plain all compiled_all c k at)
          (descriptor_good p core plain all compiled_all None m h) found fits

      by_kind : (count op : ℕ) → IsMethod p m → (kind : MethodKind) → m.kind ≡ kind → IsCalledBy kind op → NamesMethod os count op called
      by_kind count op h kinds.Main e g = absurd g
      by_kind count op h kinds.Protocol e g =
          let f : Fits false (access_of m.kind) = subst (λ y. Fits false (access_of y)) (sym e) refl in
          subst (λ x. NamesMethod os count x called) (sym g) (names_as count 182 (machine.Method c (method_position false f).0) h
          (found_182 f) refl)
      by_kind count op h kinds.Helper e g =
          let f : Fits false (access_of m.kind) = subst (λ y. Fits false (access_of y)) (sym e) refl in
          subst (λ x. NamesMethod os count x called) (sym g) (names_as count 183 (machine.Method c (method_position false f).0) h
          (found_183 f) refl)
      by_kind count op h kinds.Static e g =
          let f : Fits true (access_of m.kind) = subst (λ y. Fits true (access_of y)) (sym e) refl in
          subst (λ x. NamesMethod os count x called) (sym g) (names_as count 184 (machine.Method c (method_position true f).0) h
          (found_184 f) refl)

    -- Constructors.

    abbrev init : Reference
    init = init_of (class_name p c)

    init_position : (t : ℕ) → k.typestate ≡ Some t → position (is_member init.member false) (map declared_method it.methods) ≡ Some 0
    init_position t e =
        ap (λ xs. position (is_member init.member false) (map declared_method xs)) it.compiled.all_are
        ∙ ap (λ y. position (is_member init.member false) (map declared_method (constructors p c k y ++ it.compiled.methods))) e
        ∙ at_once (is_member init.member false) (declared_method (constructor p c k)) (map declared_method it.compiled.methods) refl

    pub knows_init_of : (count t : ℕ) → k.typestate ≡ Some t → NamesMethod os count 183 init
    knows_init_of count t e =
        names_by os count 183 init (method_types init_name init_descriptor) (machine.Method c 0)
        (class_known p core plain all compiled_all c k at)
        (init_described p core plain all compiled_all None)
        (ap (named_args os 183 init) (not_183 init (plain_class p core plain all compiled_all c k at))
        ∙ ap (loaded_member os 183 init.member) (named_class p core plain all compiled_all c k at)
        ∙ ap (args_by (machine.Method c)) (ap (method_of_class init.member false) it.outline ∙ init_position t e)) refl

  pub knows_method : (count op n : ℕ) (m : Method) → slice_get p.methods n ≡ Some m → IsMethod p m → IsCalledBy m.kind op →
      NamesMethod os count op (method_reference p n)
  knows_method count op n m e h g =
      let same : nat_eq m.class m.class ≡ true = grind (arith, nat_tests) in
      subst (NamesMethod os count op) (sym (ap (method_member p) e))
      (by_kind m.class h.class h.class_at m n e same count op h m.kind refl g)
