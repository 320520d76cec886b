-- How many members a class may have: each name of a field or a method is a text of its own in the pool.
use Rattle.std.proofs.Common.{◌≡◌, ℕ, zero, suc, ◌+◌, ◌-◌, ◌^◌, ◌<◌, ◌≤◌, Bool, true, false, List, [], ◌∷◌, ◌++◌, length, map, filter}
use Rattle.std.proofs.Common.{Some, None, Contains, slice_get, filter_map, nat_eq, refl, sym, ap, ◌∙◌, subst, arith}
use Rattle.std.specs.List.{AllByRecursion}
use Rattle.std.proofs.lemmas.List.{length-map}
use Rattle.std.proofs.lemmas.List.Elements.{Contains-append_right}
use Rattle.mg_text.specs.Call.{Name}
use Rattle.ts_tree.specs.Proper.{AreDistinct}
use Rattle.cls_tree.specs.declared.class.Const.{Const}
use Rattle.cls_tree.specs.declared.class.Const.TheVariants.{Utf8}
use Rattle.cls_tree.specs.Emitted.{class_const}
use Rattle.cls_tree.specs.Tree as file
use Rattle.jv_core.specs.Conditions.{IsCore}
use Rattle.jv_core.specs.Lookup.{text_at}
use Rattle.jv_core.specs.Numbering.{methods_of}
use Rattle.jv_core.specs.Tree.{Field, Class, Method, Program}
use Rattle.vm_model.specs.BuiltIns.{object_class}
use Rattle.gen_rules.specs.Classes.{Compiled, constructors, methods_in, AreCompiled, IsCompiledClass, AreCompiledClasses}
use Rattle.gen_rules.specs.Classes.{header, field_in_file, method_in_file, each}
use Rattle.gen_rules.specs.Limits.{parts_in, first_in_parts, first_in_classes}
use Rattle.gen_rules.proofs.Pool.{grows_twice, class_const-gives}
use Rattle.gen_links.proofs.Apart.{some_is, in_first}
use Rattle.gen_links.proofs.Called.{methods_filtered}
use Rattle.gen_links.specs.Spelled.{HasFewMembers, CoresAreSmall}
use Rattle.gen_links.proofs.Limits.{Limited, first_none, header_limited, fields_limited, methods_limited}
use Rattle.gen_links.proofs.Members.{MethodMade, method_made, method_grown, FieldMade, field_made, field_grown, AllMade, each_made}

-- Names that are apart, and stand in a list each, are no more than its items.

without : {A : Type 0} → List A → ℕ → List A
without [] n = []
without (x ∷ xs) zero = xs
without (x ∷ xs) (suc n) = x ∷ without xs n

abbrev Stands : {A : Type 0} → List A → A → Type 0
Stands xs x = (k : ℕ) × (slice_get xs k ≡ Some x)

one_less : {A : Type 0} (xs : List A) (n : ℕ) (x : A) → slice_get xs n ≡ Some x → length xs ≡ suc (length (without xs n))
unfolding without
one_less [] n x e = absurd cc
one_less (y ∷ xs) zero x e = refl
one_less (y ∷ xs) (suc n) x e = ap suc (one_less xs n x e)

still : {A : Type 0} (xs : List A) (n : ℕ) (x y : A) → slice_get xs n ≡ Some x → (k : ℕ) → slice_get xs k ≡ Some y → (y ≡ x → ⊥) →
    Stands (without xs n) y
unfolding without
still [] n x y e k f apart = absurd cc
still (z ∷ xs) zero x y e zero f apart = absurd (apart (some_is (sym f ∙ e)))
still (z ∷ xs) zero x y e (suc k) f apart = (k, f)
still (z ∷ xs) (suc n) x y e zero f apart = (0, f)
still (z ∷ xs) (suc n) x y e (suc k) f apart = let s = still xs n x y e k f apart in (suc s.0, s.1)

same_letters : (a b : Name) → Utf8 a ≡ Utf8 b → a ≡ b
same_letters a b e = cc

-- the texts of these names are among the constants
abbrev AreTexts : List Const → List Name → Type 0
AreTexts pool names = AllByRecursion (λ n. Stands pool (Utf8 n)) names

all_still : (names : List Name) (pool : List Const) (k : ℕ) (x : Name) → slice_get pool k ≡ Some (Utf8 x) → (Contains names x → ⊥) →
    AreTexts pool names → AreTexts (without pool k) names
all_still [] pool k x e absent h = tt
all_still (m ∷ names) pool k x e absent h = (
  still pool k (Utf8 x) (Utf8 m) e (h.0).0 (h.0).1
      (λ same. absent (subst (Contains (m ∷ names)) (same_letters m x same) (in_first names m))),
  all_still names pool k x e (λ c. absent (Contains-append_right (m ∷ []) names x c)) h.1,
)

as_few : (names : List Name) (pool : List Const) → AreDistinct names → AreTexts pool names → length names ≤ length pool
as_few [] pool apart stand = omega arith
as_few (n ∷ names) pool apart stand =
    let k = (stand.0).0 in
    let less = one_less pool k (Utf8 n) (stand.0).1 in
    let rest = as_few names (without pool k) apart.1 (all_still names pool k n (stand.0).1 apart.0 stand.1) in
    omega (arith, less, rest)

-- The names of members are texts of the pool in which they were made.

field_texts : (p : Program) (pool : List Const) (ds : List Field) (ms : List file.Member) → AllMade (FieldMade p) pool ds ms →
    AreTexts pool (map (λ f. text_at p f.name) ds)
field_texts p pool [] [] h = tt
field_texts p pool [] (m ∷ ms) h = absurd h
field_texts p pool (d ∷ ds) [] h = absurd h
field_texts p pool (d ∷ ds) (m ∷ ms) h = let name = (h.0).name in ((name.0, name.2), field_texts p pool ds ms h.1)

abbrev IsNamedIn : List Const → Compiled → Type 0
IsNamedIn pool c = Stands pool (Utf8 c.name)

method_texts : (pool : List Const) (cs : List Compiled) (ms : List file.Member) → AllMade MethodMade pool cs ms →
    AllByRecursion (IsNamedIn pool) cs
method_texts pool [] [] h = tt
method_texts pool [] (m ∷ ms) h = absurd h
method_texts pool (c ∷ cs) [] h = absurd h
method_texts pool (c ∷ cs) (m ∷ ms) h = let name = (h.0).name in ((name.0, name.2), method_texts pool cs ms h.1)

behind : {A : Type 0} (P : A → Type 0) (a b : List A) → AllByRecursion P (a ++ b) → AllByRecursion P b
behind P [] b h = h
behind P (x ∷ a) b h = behind P a b h.1

written_texts : (p : Program) (pool : List Const) (ms : List Method) (cs : List Compiled) → AreCompiled p ms cs →
    AllByRecursion (IsNamedIn pool) cs → AreTexts pool (map (λ m. text_at p m.name) ms)
written_texts p pool [] [] h texts = tt
written_texts p pool [] (c ∷ cs) h texts = absurd h
written_texts p pool (m ∷ ms) [] h texts = absurd h
written_texts p pool (m ∷ ms) (c ∷ cs) h texts =
    (subst (IsNamedIn pool) (h.0).2 texts.0, written_texts p pool ms cs h.1 texts.1)

methods_counted : (c n : ℕ) (ms : List Method) → length (methods_of c n ms) ≡ length (filter (λ m. nat_eq m.class c) ms)
methods_counted c n [] = refl
methods_counted c n (m ∷ ms) = go (nat_eq m.class c) refl (methods_counted c (suc n) ms)
  where
    go : (b : Bool) → nat_eq m.class c ≡ b → length (methods_of c (suc n) ms) ≡ length (filter (λ x. nat_eq x.class c) ms) →
        length (methods_of c n (m ∷ ms)) ≡ length (filter (λ x. nat_eq x.class c) (m ∷ ms))
    go true e rest = rw e (ap suc rest)
    go false e rest = rw e rest

-- Classes.

module _ (p : Program) (core : IsCore p) where
  -- the pool behind the fields, which isn't full
  abbrev with_fields : Class → List Const
  with_fields k = (each (field_in_file p) k.fields (header p k []).1).1

  record Room (k : Class) (cs : List Compiled) : Type 0 where
    fields : Limited (with_fields k)
    methods : Limited (each method_in_file cs (with_fields k)).1

  room : (k : Class) (cs : List Compiled) → first_in_parts p k (parts_in k cs) [] ≡ None → Room k cs
  room k cs none =
      let pool = (class_const (text_at p k.name) []).1 in
      let grows = grows_twice (class_const-gives (text_at p k.name) []).grows (class_const-gives object_class pool).grows in
      let a = header_limited p k grows cs none in
      let b = fields_limited p k (λ d q. (field_made p d q).grows) k.fields cs (header p k []).1 a.0 a.1 in
      record {
        fields = b.0;
        methods = (methods_limited p k (λ c q. (method_made c q).grows) cs (with_fields k) b.0 b.1).limited;
      }

  module _ (c : ℕ) (k : Class) (at : slice_get p.classes c ≡ Some k) (cs : List Compiled) (room_is : Room k cs) where
    few_fields : length k.fields < 2 ^ 16
    few_fields =
        let names = map (λ f. text_at p f.name) k.fields in
        let made = each_made (FieldMade p) (field_in_file p) (λ q r g d m h. field_grown p g d m h) (field_made p) k.fields
        (header p k []).1 in
        let few = as_few names (with_fields k) (core.classes c k at).fields_apart
        (field_texts p (with_fields k) k.fields (each (field_in_file p) k.fields (header p k []).1).0 made.holds) in
        let same : length names ≡ length k.fields = length-map k.fields (λ f. text_at p f.name) in
        let limit = room_is.fields.few in
        omega (arith, few, same, limit)

    in_class : methods_in p k ≡ filter (λ m. nat_eq m.class c) p.methods
    in_class =
        ap (filter_map (slice_get p.methods)) (core.classes c k at).methods
        ∙ methods_filtered p.methods c 0 p.methods (λ i m e. let same : i ≡ 0 + i
        = omega arith in subst (λ y. slice_get p.methods y ≡ Some m) same e)

    few_methods : IsCompiledClass p c k cs → length k.methods < 2 ^ 16 - 1
    few_methods h =
        let last = (each method_in_file cs (with_fields k)).1 in
        let own = filter (λ m. nat_eq m.class c) p.methods in
        let names = map (λ m. text_at p m.name) own in
        let made = each_made MethodMade method_in_file (λ q r g x m s. method_grown g x m s) method_made cs (with_fields k) in
        let all = method_texts last cs (each method_in_file cs (with_fields k)).0 made.holds in
        let written = written_texts p last (methods_in p k) h.methods h.made
        (behind (IsNamedIn last) (constructors p c k k.typestate) h.methods (subst (AllByRecursion (IsNamedIn last)) h.all_are all)) in
        let texts : AreTexts last names = subst (λ ms. AreTexts last (map (λ m. text_at p m.name) ms)) in_class written in
        let few = as_few names last (core.classes c k at).methods_apart texts in
        let same : length names ≡ length own = length-map own (λ m. text_at p m.name) in
        let count : length k.methods ≡ length own = ap length (core.classes c k at).methods ∙ methods_counted c 0 p.methods in
        let limit = room_is.methods.few in
        omega (arith, few, same, count, limit)

  -- the classes from number c on
  all_few : (c : ℕ) (ks : List Class) (all : List (List Compiled)) → AreCompiledClasses p c ks all →
      ((i : ℕ) (k : Class) → slice_get ks i ≡ Some k → slice_get p.classes (c + i) ≡ Some k) → first_in_classes p ks all ≡ None →
      AllByRecursion HasFewMembers ks
  all_few c [] all h at none = tt
  all_few c (k ∷ ks) [] h at none = absurd h
  all_few c (k ∷ ks) (cs ∷ all) h at none =
      let first = first_none (first_in_parts p k (parts_in k cs) []) (first_in_classes p ks all) none in
      let begins : c + 0 ≡ c = omega arith in
      let here = subst (λ n. slice_get p.classes n ≡ Some k) begins (at 0 k refl) in
      let room_is = room k cs first.0 in (
        record { fields = few_fields c k here cs room_is; methods = few_methods c k here cs room_is h.0 },
        all_few (suc c) ks all h.1
            (λ i x e. let same : c + suc i ≡ suc c + i = omega arith in subst (λ n. slice_get p.classes n ≡ Some x) same (at (suc i) x e))
            first.1,
      )

pub cores_are_small : CoresAreSmall
cores_are_small = record {
  few = λ p core excess.
      all_few p core 0 p.classes excess.all excess.compiled.classes
      (λ i k e. let same : i ≡ 0 + i = omega arith in subst (λ n. slice_get p.classes n ≡ Some k) same e) (sym excess.is);
}
