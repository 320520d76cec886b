-- Where the machine starts is the `main` of the class: linking and the core find the same one.
use Rattle.std.proofs.Common.{◌≡◌, ℕ, zero, suc, ◌+◌, Bool, true, false, ◌&&◌, List, [], ◌∷◌, ◌++◌, map, get_or, Option, Some, None, filter}
use Rattle.std.proofs.Common.{filter_map, position, slice_get, refl, sym, ap, ap₂, ◌∙◌, subst, arith, codes}
use Rattle.std.specs.Prelude.{option_and_then, nat_eq, if◌then◌else◌}
use Rattle.std.specs.List.{AllByRecursion}
use Rattle.std.specs.Str.{bytes_eq}
use Rattle.std.proofs.lemmas.List.Quantifiers.{position-Some}
use Rattle.std.proofs.lemmas.Option.{slice_get-get_or}
use Rattle.mg_text.specs.Call.{Name}
use Rattle.ts_tree.specs.Proper.{AreDistinct}
use Rattle.cls_tree.specs.declared.class.Const.{Const}
use Rattle.jv_core.specs.declared.program.MethodKind.{MethodKind}
use Rattle.jv_core.specs.declared.program.MethodKind.TheVariants as kinds
use Rattle.jv_core.specs.Tree.{Class, Method, Program}
use Rattle.jv_core.specs.Lookup.{text_at, class_numbered, is_main, param_types}
use Rattle.jv_core.specs.Conditions.{IsMain, IsCore}
use Rattle.jv_core.specs.Meaning.{as_run, main_in, main_of}
use Rattle.vm_model.specs.Types.{signature_text, main_signature}
use Rattle.vm_model.specs.Links.{Outline, is_static}
use Rattle.vm_model.specs.Start as start
use Rattle.gen_rules.specs.Symbolic.{Instr}
use Rattle.gen_rules.specs.Members.{descriptor_of}
use Rattle.gen_rules.specs.Templates.{IsCode}
use Rattle.gen_rules.specs.Classes.{Compiled, compiled, access_of, constructors, methods_in, method_in_file, each, AreCompiled}
use Rattle.gen_rules.specs.Classes.{IsCompiledClass, AreCompiledClasses, IsCompiled, class_file}
use Rattle.gen_rules.specs.Linked.{outline_of, outlines_of, linked_method, linked_methods, linked_class, linked_classes, linked_program}
use Rattle.jv_sound.proofs.Lists.{some_is, name_is}
use Rattle.jv_sound.proofs.Expressions.{method_ok}
use Rattle.jv_sound.proofs.Sound.{main_at, is_main_method}
use Rattle.gen_links.specs.Files.{IsPlainName, HasPlainNames}
use Rattle.gen_links.proofs.Apart.{passes_at, classes_apart}
use Rattle.gen_links.proofs.Called.{methods_filtered, among, plain_names, none_is_init}
use Rattle.gen_sound.specs.Mains.{StandsAs}
use Rattle.gen_sound.proofs.Loading.{method_at}

-- the element at a position
record Found {A : Type 0} (test : A → Bool) (xs : List A) (i : ℕ) : Type 0 where
  it : A
  at : slice_get xs i ≡ Some it
  passes : test it ≡ true

position_found : {A : Type 0} (test : A → Bool) (xs : List A) (i : ℕ) → position test xs ≡ Some i → Found test xs i
position_found test [] i e = absurd (cc)
position_found test (x ∷ xs) i e =
    let h = position-Some test (x ∷ xs) i x e in
    record { it = get_or (x ∷ xs) i x; at = slice_get-get_or (x ∷ xs) i x h.0; passes = h.1 }

first_of_both : (a b : Bool) → (a && b) ≡ true → a ≡ true
first_of_both true b e = refl
first_of_both false b e = absurd (cc)

-- Classes.

pub record LinkedClass (p : Program) (os : List Outline) (first : ℕ) (ks : List Class) (all : List (List Compiled)) (i : ℕ) (k : Class)
    : Type 0 where
  pub methods : List Compiled
  pub class_is : slice_get all i ≡ Some methods
  pub compiled : IsCompiledClass p (first + i) k methods
  pub linked : slice_get (linked_classes p os ks all) i ≡ Some (linked_class p os k methods)
  pub outline : slice_get (outlines_of p ks all) i ≡ Some (outline_of p k methods)

pub linked_class_at : (p : Program) (os : List Outline) (first : ℕ) (ks : List Class) (all : List (List Compiled)) →
    AreCompiledClasses p first ks all → (i : ℕ) (k : Class) → slice_get ks i ≡ Some k → LinkedClass p os first ks all i k
linked_class_at p os first [] all h i k e = absurd (cc)
linked_class_at p os first (x ∷ ks) [] h i k e = absurd h
linked_class_at p os first (x ∷ ks) (cs ∷ all) h zero k e =
    subst (LinkedClass p os first (x ∷ ks) (cs ∷ all) zero) (some_is e) (record {
      methods = cs;
      class_is = refl;
      compiled = let same : first ≡ first + 0 = omega arith in subst (λ y. IsCompiledClass p y x cs) same h.0;
      linked = refl;
      outline = refl;
    })
linked_class_at p os first (x ∷ ks) (cs ∷ all) h (suc i) k e =
    let g = linked_class_at p os (suc first) ks all h.1 i k e in
    record {
      methods = g.methods;
      class_is = g.class_is;
      compiled = let same : suc first + i ≡ first + suc i = omega arith in subst (λ y. IsCompiledClass p y k g.methods) same g.compiled;
      linked = g.linked;
      outline = g.outline;
    }

pub linked_names : (p : Program) (os : List Outline) (first : ℕ) (ks : List Class) (all : List (List Compiled)) →
    AreCompiledClasses p first ks all → map (λ c. c.name) (linked_classes p os ks all) ≡ map (λ k. text_at p k.name) ks
linked_names p os first [] [] h = refl
linked_names p os first [] (x ∷ all) h = absurd h
linked_names p os first (k ∷ ks) [] h = absurd h
linked_names p os first (k ∷ ks) (x ∷ all) h = ap (λ xs. text_at p k.name ∷ xs) (linked_names p os (suc first) ks all h.1)

-- Methods.

pub names_of : (p : Program) (ms : List Method) (cs : List Compiled) → AreCompiled p ms cs →
    map (λ c. c.name) cs ≡ map (λ m. text_at p m.name) ms
names_of p [] [] h = refl
names_of p [] (c ∷ cs) h = absurd h
names_of p (m ∷ ms) [] h = absurd h
names_of p (m ∷ ms) (c ∷ cs) h = ap₂ (λ x xs. x ∷ xs) (ap (λ x. x.name) (h.0).2) (names_of p ms cs h.1)

pub record CompiledAt (p : Program) (m : Method) (cs : List Compiled) (i : ℕ) : Type 0 where
  pub code : List Instr
  pub is_code : IsCode p m code
  pub at : slice_get cs i ≡ Some (compiled p m code)

pub compiled_at : (p : Program) (ms : List Method) (cs : List Compiled) → AreCompiled p ms cs → (i : ℕ) (m : Method) →
    slice_get ms i ≡ Some m → CompiledAt p m cs i
compiled_at p [] cs h i m e = absurd (cc)
compiled_at p (x ∷ ms) [] h i m e = absurd h
compiled_at p (x ∷ ms) (c ∷ cs) h zero m e =
    subst (λ m. CompiledAt p m (c ∷ cs) zero) (some_is e)
    (record { code = (h.0).0; is_code = (h.0).1; at = ap (λ y. Some y) (h.0).2 })
compiled_at p (x ∷ ms) (c ∷ cs) h (suc i) m e =
    let g = compiled_at p ms cs h.1 i m e in record { code = g.code; is_code = g.is_code; at = g.at }

method_names : (os : List Outline) (cs : List Compiled) (pool : List Const) →
    map (λ m. m.name) (linked_methods os cs (each method_in_file cs pool).0) ≡ map (λ c. c.name) cs
method_names os [] pool = refl
method_names os (c ∷ cs) pool = ap (λ xs. c.name ∷ xs) (method_names os cs (method_in_file c pool).1)

-- behind the constructor
pub record Behind (cs : List Compiled) (x : Compiled) : Type 0 where
  pub number : ℕ
  pub at : slice_get cs number ≡ Some x

pub behind : (p : Program) (c : ℕ) (k : Class) (t : Option ℕ) (methods : List Compiled) (i : ℕ) (x : Compiled) →
    slice_get methods i ≡ Some x →
    Behind (constructors p c k t ++ methods) x
behind p c k None methods i x e = record { number = i; at = e }
behind p c k (Some t) methods i x e = record { number = suc i; at = e }

pub all_apart : (p : Program) (c : ℕ) (k : Class) (t : Option ℕ) (methods : List Compiled) →
    AllByRecursion IsPlainName (map (λ c. c.name) methods) → AreDistinct (map (λ c. c.name) methods) →
    AreDistinct (map (λ c. c.name) (constructors p c k t ++ methods))
all_apart p c k None methods plain apart = apart
all_apart p c k (Some t) methods plain apart = (none_is_init (map (λ c. c.name) methods) plain, apart)

-- whether this is how a `main` is told
abbrev told : Program → Method → Name → MethodKind → Bool
told p m name kind = bytes_eq name (codes "main") &&
    (is_static (access_of kind) && bytes_eq (if is_main kind then signature_text main_signature
    else descriptor_of p (param_types m) m.result) (codes "([Ljava/lang/String;)V"))

-- a `main` of a core in the linked program, under the numbers at which a run begins
pub record MainStands (p : Program) (all : List (List Compiled)) (name : Name) (number : ℕ) (m : Method) : Type 0 where
  pub class : ℕ
  pub method : ℕ
  pub code : List Instr
  pub kind : m.kind ≡ kinds.Main
  pub stands : StandsAs p all class method m code
  pub main : start.IsMain (linked_program p all) name class method

module _ (p : Program) (core : IsCore p) (plain : HasPlainNames p) (all : List (List Compiled)) (made : IsCompiled p all) where
  abbrev os : List Outline
  os = outlines_of p p.classes all

  pub in_class : (c : ℕ) (k : Class) → slice_get p.classes c ≡ Some k → methods_in p k ≡ filter (λ m. nat_eq m.class c) p.methods
  in_class c k at =
      ap (filter_map (slice_get p.methods)) (core.classes c k at).methods
      ∙ methods_filtered p.methods c 0 p.methods (λ i m e. let same : i ≡ 0 + i = omega arith in
      subst (λ y. slice_get p.methods y ≡ Some m) same e)

  stands_there : (c number : ℕ) (k : Class) (m : Method) (name : Name) → slice_get p.classes c ≡ Some k →
      bytes_eq (text_at p k.name) name ≡ true → slice_get p.methods number ≡ Some m → nat_eq m.class c ≡ true → m.kind ≡ kinds.Main →
      MainStands p all name number m
  stands_there c number k m name at named of mine kind =
      let main : IsMain p m = is_main_method p core m m.kind (method_ok p core number m of).kind kind in
      let l = linked_class_at p os 0 p.classes all made.classes c k at in
      let class : IsCompiledClass p c k l.methods = let same : 0 + c ≡ c = omega arith in subst (λ y. IsCompiledClass p y k l.methods) same
      l.compiled in
      let a = among c p.methods number m of mine in
      let in_methods : slice_get (methods_in p k) a.number ≡ Some m = ap (λ ms. slice_get ms a.number) (in_class c k at) ∙ a.at in
      let x = compiled_at p (methods_in p k) class.methods class.made a.number m in_methods in
      let b = behind p c k k.typestate class.methods a.number (compiled p m x.code) x.at in
      let here : slice_get l.methods b.number ≡ Some (compiled p m x.code) = ap (λ cs. slice_get cs b.number) class.all_are ∙ b.at in
      let pool : List Const = _ in
      let j = method_at os l.methods pool b.number (compiled p m x.code) here in
      let texts : map (λ c. c.name) class.methods ≡ map (λ m. text_at p m.name) (methods_in p k) =
      names_of p (methods_in p k) class.methods class.made in
      let apart : AreDistinct (map (λ c. c.name) class.methods) =
      subst AreDistinct (sym texts) (subst (λ ms. AreDistinct (map (λ m. text_at p m.name) ms)) (sym (in_class c k at))
      (core.classes c k at).methods_apart) in
      let all_plain : AllByRecursion IsPlainName (map (λ c. c.name) class.methods) =
      subst (AllByRecursion IsPlainName) (sym texts) (plain_names p plain (methods_in p k)) in
      let distinct : AreDistinct (map (λ c. c.name) l.methods) =
      subst (λ cs. AreDistinct (map (λ c. c.name) cs)) (sym class.all_are) (all_apart p c k k.typestate class.methods all_plain apart) in
      let found_class : start.class_named (linked_program p all) name ≡ Some c =
      passes_at (λ c. c.name) (λ c. bytes_eq c.name name) (linked_program p all) c (linked_class p os k l.methods)
      (subst AreDistinct (sym (linked_names p os 0 p.classes all made.classes)) (classes_apart p core plain all made.classes)) l.linked
      named
      (λ d t. name_is d.name name t ∙ sym (name_is (text_at p k.name) name named)) in
      let found_main : start.main_in (Some (linked_class p os k l.methods)) ≡ Some b.number =
      passes_at (λ m. m.name) start.is_main (linked_methods os l.methods (class_file p k l.methods).methods) b.number
      (linked_method os (compiled p m x.code) (method_in_file (compiled p m x.code) j.pool).0)
      (subst AreDistinct (sym (method_names os l.methods pool)) distinct) j.at
      (ap₂ (told p m) main.name kind)
      (λ d t. name_is d.name (codes "main") (first_of_both _ _ t) ∙ sym main.name) in
      record {
        class = c;
        method = b.number;
        code = x.code;
        kind = kind;
        stands = record { methods = l.methods; class_is = l.class_is; method_is = here; is_code = x.is_code };
        main = record { has_class = found_class; has_main = ap start.main_in l.linked ∙ found_main };
      }

  -- the `main` that the core means stands where a run begins
  pub main_stands : (name : Name) (number : ℕ) (m : Method) → slice_get p.methods number ≡ Some m →
      main_of p name ≡ Some (as_run p number m) → MainStands p all name number m
  main_stands name number m of is = go (class_numbered p name) refl is
    where
      go : (o : Option ℕ) → class_numbered p name ≡ o → option_and_then (λ c. main_in p c 0 p.methods) o ≡ Some (as_run p number m) →
          MainStands p all name number m
      go None e f = absurd (cc)
      go (Some c) e f =
          let h = position_found (λ k. bytes_eq (text_at p k.name) name) p.classes c e in
          let i = main_at p core c [] p.methods (as_run p number m) refl f in
          let same : number ≡ i.number = ap (λ r. r.body.method) i.is in
          let method : m ≡ i.method = some_is (sym of ∙ ap (slice_get p.methods) same ∙ i.at) in
          stands_there c number h.it m name h.at h.passes of (ap (λ m. nat_eq m.class c) method ∙ i.mine) (ap (λ m. m.kind) method ∙ i.main)
