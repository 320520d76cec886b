-- The methods of a class, and the class files of a program.
use Rattle.std.proofs.Common.{◌≡◌, ℕ, suc, ◌+◌, ◌<◌, ◌≤◌, get_or, List, [], ◌∷◌, ◌++◌, length, drop, map, filter_map, slice_get}
use Rattle.std.specs.Prelude.{codes}
use Rattle.std.proofs.Common.{Some, None, refl, sym, ap, ap₂, ◌∙◌, subst, append_assoc, arith}
use Rattle.std.proofs.lemmas.List.{append-nil, at_drop_more, at_drop_all, drop_all, drop-map, map-append, get_or_past}
use Rattle.std.proofs.lemmas.List.{length-map, length-append}
use Rattle.std.proofs.lemmas.List.Elements.{filter_map-append}
use Rattle.std.proofs.lemmas.Option.{slice_get-map, get_or_from_slice_get}
use Rattle.mg_text.specs.Call.{Name}
use Rattle.cls_tree.specs.Tree as file
use Rattle.cls_tree.specs.declared.class.Class.{Class as KeptFile}
use Rattle.cls_tree.specs.View.{class_of as file_of}
use Rattle.jv_core.specs.Tree.{Class, Method, Program}
use Rattle.jv_core.specs.Lookup.{text_at}
use Rattle.jv_core.specs.View.{class_of}
use Rattle.jv_core.specs.declared.program.CoreClass.{CoreClass}
use Rattle.gen_rules.specs.Symbolic.{Instr, return}
use Rattle.gen_expressions.specs.declared.symbolic.Symbolic.{Symbolic}
use Rattle.gen_expressions.specs.View.{instr_of, instrs_of}
use Rattle.gen_rules.specs.Members.{method_descriptor}
use Rattle.gen_rules.specs.Frames.{max_stack, max_locals}
use Rattle.gen_rules.specs.Templates.{IsCode}
use Rattle.gen_rules.specs.Classes.{Compiled, compiled, access_of, code_in_file, class_file, class_files, AreClasses, Emits}
use Rattle.gen_rules.specs.Classes.{all_initialised, constructor_code, constructor_stack, constructor}
use Rattle.gen_rules.specs.Limits.{Excess, parts_in, first_in_parts, first_in_classes, or_else, IsFirstExcess, exceeded_by_code}
use Rattle.gen_rules.specs.inner.Generating.{generated}
use Rattle.gen_rules.specs.inner.Files.{generated_method, generated_class, generated_classes, classes_of, excess_of}
use Rattle.gen_rules.proofs.Generates.{generated_is, only_generated}
use Rattle.gen_rules.proofs.Files.{files_are, excess_is, only_excess}
use Rattle.gen_members.specs.declared.faults.GenFault.{GenFault}
use Rattle.cls_tree.specs.declared.class.Const.{Const}
use Rattle.gen_pool.specs.Made.{IsMade}
use Rattle.gen_members.specs.Parts.{excess_at}
use Rattle.gen_members.specs.Told.{Tells}
use Rattle.gen_members.proofs.Filing.{told_on}
use Rattle.gen_class.specs.First.{TellsFirst, IsExcessOfCode, TellsCode}

-- what is found at a number among images
pub ruleset found_here = (slice_get-map, get_or_from_slice_get, get_or_past)

-- a method with the code that is generated
pub method_made : (p : Program) (m : Method) (access stack locals : ℕ) (name descriptor : Name) (code : List Instr) →
    access ≡ access_of m.kind →
    name ≡ text_at p m.name → descriptor ≡ method_descriptor p m → stack ≡ max_stack p m → locals ≡ max_locals m → IsCode p m code →
    record {
      access = access;
      name = name;
      descriptor = descriptor;
      max_stack = stack;
      max_locals = locals;
      code = code;
      place = m.place;
      told_as = name;
    } ≡ generated_method p m
method_made p m access stack locals name descriptor code ea en ed es el is = rw (ea, en, ed, es, el, only_generated p m code is) refl

-- a constructor with the code that is generated
pub constructor_made : (p : Program) (n number : ℕ) (k : Class) (descriptor : Name) (stack : ℕ) (code : List Instr) (told : Name) →
    number ≡ n → descriptor ≡ codes "()V" → stack ≡ constructor_stack (all_initialised p number 0 k.fields) →
    code ≡ constructor_code p number k → told ≡ text_at p k.name →
    record {
      access = 1;
      name = codes "<init>";
      descriptor = descriptor;
      max_stack = stack;
      max_locals = 1;
      code = code;
      place = k.place;
      told_as = told;
    } ≡ constructor p n k
constructor_made p n number k descriptor stack code told en ed es ec et =
    subst (λ (m : ℕ). record {
      access = 1;
      name = codes "<init>";
      descriptor = descriptor;
      max_stack = stack;
      max_locals = 1;
      code = code;
      place = k.place;
      told_as = told;
    } ≡ constructor p m k) en (rw (ed, es, ec, et) refl)

-- How deep the stack of a constructor is, by how long its code is.
module _ (p : Program) (n : ℕ) (k : Class) (is : List Symbolic) (count : ℕ) (long : count ≡ length is)
    (code : instrs_of p is ≡ constructor_code p n k) where
  longer : count ≡ length (all_initialised p n 0 k.fields) + 3
  longer =
      let all = ap length code in
      let each = length-map is (instr_of p) in
      let more = length-append (all_initialised p n 0 k.fields) (return ∷ []) in
      omega (arith, long, all, each, more)

  pub deep : 3 < count → 2 ≡ constructor_stack (all_initialised p n 0 k.fields)
  deep lt = go (all_initialised p n 0 k.fields) longer
    where
      go : (xs : List Instr) → count ≡ length xs + 3 → 2 ≡ constructor_stack xs
      go [] e = absurd (omega (arith, e, lt))
      go (x ∷ xs) e = refl

  pub flat : count ≤ 3 → 1 ≡ constructor_stack (all_initialised p n 0 k.fields)
  flat le = go (all_initialised p n 0 k.fields) longer
    where
      go : (xs : List Instr) → count ≡ length xs + 3 → 1 ≡ constructor_stack xs
      go [] e = refl
      go (x ∷ xs) e = absurd (omega (arith, e, le))

pub ruleset depths = (deep, flat)

-- The methods with these numbers.

abbrev pub found : Program → List ℕ → List Compiled
found p ns = map (generated_method p) (filter_map (slice_get p.methods) ns)

module _ (p : Program) (ns : List ℕ) (i : ℕ) where
  -- the first, and then the others
  found_split : (n : ℕ) (rest : List ℕ) → found p (n ∷ rest) ≡ found p (n ∷ []) ++ found p rest
  found_split n rest =
      ap (map (generated_method p)) (filter_map-append (slice_get p.methods) (n ∷ []) rest)
      ∙ map-append (generated_method p) (filter_map (slice_get p.methods) (n ∷ [])) (filter_map (slice_get p.methods) rest)

  pub found_more : (d : ℕ) (old new total : List Compiled) → i < length ns → new ≡ old ++ found p (get_or ns i d ∷ []) →
      old ++ found p (drop i ns) ≡ total → new ++ found p (drop (i + 1) ns) ≡ total
  found_more d old new total within grown l =
      let n = get_or ns i d in
      let cut : drop i ns ≡ n ∷ drop (i + 1) ns = at_drop_more (λ ys. ys) ns i d within in
      ap (λ x. x ++ found p (drop (i + 1) ns)) grown ∙ append_assoc old (found p (n ∷ [])) (found p (drop (i + 1) ns))
      ∙ ap (λ x. old ++ x) (sym (found_split n (drop (i + 1) ns)) ∙ ap (found p) (sym cut)) ∙ l

  pub found_all : (done total : List Compiled) → length ns ≤ i → done ++ found p (drop i ns) ≡ total → done ≡ total
  found_all done total past l = sym (append-nil done) ∙ ap (λ x. done ++ found p x) (sym (drop_all i ns past)) ∙ l

-- The loop over the classes of a program.

-- the files so far, and those of the classes that are left, the first of which has number n
pub record AreLeft (p : Program) (n : ℕ) (left : List Class) (done : List file.Class) : Type 0 where
  pub files : classes_of p ≡ done ++ class_files p left (generated_classes p n left)
  pub judged : excess_of p ≡ first_in_classes p left (generated_classes p n left)

pub classes_begin : (p : Program) → AreLeft p 0 p.classes []
classes_begin p = record { files = refl; judged = refl }

module _ (p : Program) (n : ℕ) (k : Class) (more : List Class) (done : List file.Class) where
  class_more : (new : List file.Class) (f : file.Class) → f ≡ class_file p k (generated_class p n k) →
      first_in_parts p k (parts_in k (generated_class p n k)) [] ≡ None →
      new ≡ done ++ f ∷ [] → AreLeft p n (k ∷ more) done → AreLeft p (suc n) more new
  class_more new f made fine grown l = record {
    files = l.files ∙ ap (λ x. done ++ (x ∷ class_files p more (generated_classes p (suc n) more))) (sym made)
        ∙ sym (append_assoc done (f ∷ []) (class_files p more (generated_classes p (suc n) more)))
        ∙ ap (λ x. x ++ class_files p more (generated_classes p (suc n) more)) (sym grown);
    judged = l.judged ∙ ap (λ x. or_else x (first_in_classes p more (generated_classes p (suc n) more))) fine;
  }

  class_fails : (excess : Excess) → first_in_parts p k (parts_in k (generated_class p n k)) [] ≡ Some excess →
      AreLeft p n (k ∷ more) done → excess_of p ≡ Some excess
  class_fails excess e l = l.judged ∙ ap (λ x. or_else x (first_in_classes p more (generated_classes p (suc n) more))) e

-- the classes of a program that is kept
module _ (p : Program) (ks : List CoreClass) (are : map class_of ks ≡ p.classes) (n : ℕ) where
  cut : (x : CoreClass) → n < length ks → x ≡ get_or ks n x → drop n p.classes ≡ class_of x ∷ drop (n + 1) p.classes
  cut x within is =
      subst (λ cs. drop n cs ≡ class_of x ∷ drop (n + 1) cs) are
      (drop-map class_of n ks ∙ at_drop_more (map class_of) ks n x within
      ∙ ap₂ (λ y ys. y ∷ ys) (ap class_of (sym is)) (sym (drop-map class_of (n + 1) ks)))

  none_left : length ks ≤ n → drop n p.classes ≡ []
  none_left past = subst (λ cs. drop n cs ≡ []) are (drop-map class_of n ks ∙ at_drop_all (map class_of) ks n past)

  -- a file more is made, and nothing in it is too large
  pub file_more : (x : CoreClass) (old new : List KeptFile) (f : KeptFile) → n < length ks → x ≡ get_or ks n x →
      file_of f ≡ class_file p (class_of x) (generated_class p n (class_of x)) →
      first_in_parts p (class_of x) (parts_in (class_of x) (generated_class p n (class_of x))) [] ≡ None → new ≡ old ++ f ∷ [] →
      AreLeft p n (drop n p.classes) (map file_of old) → AreLeft p (n + 1) (drop (n + 1) p.classes) (map file_of new)
  file_more x old new f within is made fine grown l =
      let next : suc n ≡ n + 1 = omega arith in
      subst (λ m. AreLeft p m (drop (n + 1) p.classes) (map file_of new)) next
      (class_more p n (class_of x) (drop (n + 1) p.classes) (map file_of old) (map file_of new) (file_of f) made fine
      (ap (map file_of) grown ∙ map-append file_of old (f ∷ []))
      (subst (λ cs. AreLeft p n cs (map file_of old)) (cut x within is) l))

  -- something in one is too large
  pub file_fails : (x : CoreClass) (old : List KeptFile) (e : GenFault) → n < length ks → x ≡ get_or ks n x →
      Tells (first_in_parts p (class_of x) (parts_in (class_of x) (generated_class p n (class_of x))) []) e →
      AreLeft p n (drop n p.classes) (map file_of old) → TellsFirst p e
  file_fails x old e within is tells l excess first =
      subst (λ o. Tells o e) (sym (only_excess p excess first))
      (told_on (first_in_parts p (class_of x) (parts_in (class_of x) (generated_class p n (class_of x))) []) (excess_of p) e
      (λ it fails. class_fails p n (class_of x) (drop (n + 1) p.classes) (map file_of old) it fails
      (subst (λ cs. AreLeft p n cs (map file_of old)) (cut x within is) l)) tells)

  -- all are made
  pub files_made : (done : List file.Class) → length ks ≤ n → AreLeft p n (drop n p.classes) done → AreClasses p done
  files_made done past l =
      let e = subst (λ cs. AreLeft p n cs done) (none_left past) l in
      subst (AreClasses p) (e.files ∙ append-nil done) (files_are p)

  -- and none is too large
  pub files_fine : (done : List file.Class) → length ks ≤ n → AreLeft p n (drop n p.classes) done → IsFirstExcess p None
  files_fine done past l =
      let e = subst (λ cs. AreLeft p n cs done) (none_left past) l in
      subst (IsFirstExcess p) e.judged (excess_is p)

-- The code of a method alone.
module _ (p : Program) (m : Method) (pool : List Const) where
  pub emitted_by : (made : Compiled) (c : file.Code) (left : List Const) → made ≡ generated_method p m →
      IsMade c left (code_in_file made pool) →
      Emits p m pool c left
  emitted_by made c left e is = record {
    code = generated p m;
    is_code = generated_is p m;
    made_is = is.value ∙ ap (λ x. (code_in_file x pool).0) e;
    left_is = is.left ∙ ap (λ x. (code_in_file x pool).1) e;
  }

  pub fine_by : (made : Compiled) → made ≡ generated_method p m → exceeded_by_code made pool ≡ None → IsExcessOfCode p m pool None
  fine_by made e none = record {
    code = generated p m;
    is_code = generated_is p m;
    is = ap (excess_at m.place (text_at p m.name)) (sym none ∙ ap (λ x. exceeded_by_code x pool) e);
  }

  pub told_by : (made : Compiled) (fault : GenFault) → made ≡ generated_method p m →
      Tells (excess_at made.place made.told_as (exceeded_by_code made pool)) fault → TellsCode p m pool fault
  told_by made fault e tells excess is =
      subst (λ x. Tells x fault)
      (ap (λ x. excess_at x.place x.told_as (exceeded_by_code x pool)) e
      ∙ ap (λ code. excess_at m.place (text_at p m.name) (exceeded_by_code (compiled p m code) pool))
      (sym (only_generated p m is.code is.is_code))
      ∙ sym is.is)
      tells
