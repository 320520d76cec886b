-- What a well typed program is resolved to stands for it.
use Rattle.std.proofs.Common.{◌≡◌, ℕ, zero, suc, ◌+◌, List, [], ◌∷◌, map, Some, option_map, option_and_then, slice_get, refl, sym, ap, ◌∙◌}
use Rattle.std.proofs.Common.{subst, arith}
use Rattle.std.specs.List.{AllByRecursion}
use Rattle.std.specs.Str.{bytes_eq}
use Rattle.std.proofs.lemmas.Slice.Eq.{bytes_eq-Decides}
use Rattle.mg_text.specs.Call.{Name}
use Rattle.ts_tree.specs.Proper.{AreDistinct}
use Rattle.jv_tree.specs.Source
use Rattle.jv_meaning.specs.Program.{classes_of, enums_of, class_named}
use Rattle.jv_rules.specs.Program.{Program}
use Rattle.jv_rules.specs.Scope.{entered}
use Rattle.jv_rules.specs.Spots.{method_spots}
use Rattle.jv_rules.specs.Faults.{IsWellTyped}
use Rattle.jv_core.specs.Tree as Core
use Rattle.jv_names.specs.Resolves.{Aligned, Owned, methods_of, ClassIs, EnumIs, MethodIs, AreBounded, Resolves}
use Rattle.jv_names.specs.Resolves as is
use Rattle.jv_names.proofs.Tables.{some_is, aligned_at, owner_at, class_name}
use Rattle.jv_names.proofs.Lookups.{owned_by}
use Rattle.jv_names.proofs.Clean.{NoFaultAt, method_clean}
use Rattle.jv_names.proofs.Declared.{no_fault}
use Rattle.jv_names.proofs.NamedApart.{types_apart}
use Rattle.jv_names.proofs.OneNumber.{distinct_left, stands_once, finds}
use Rattle.jv_names.proofs.Owned.{aligned_behind, method_at}
use Rattle.jv_resolve_law.specs.Tables.{Entry, Tables, tables_of}
use Rattle.jv_resolve_law.specs.Members.{Naming, enums, classes, method, methods, resolving}
use Rattle.jv_resolve_law.specs.Members as members
use Rattle.jv_resolve_law.specs.Laws.{ResolvingIsRight}
use Rattle.jv_resolve_law.proofs.Steps.{bound, Extends}
use Rattle.jv_resolve_law.proofs.Tabled.{IsTabled, IsEntry, tabled}
use Rattle.jv_resolve_law.proofs.Given.{Holds, Stands}
use Rattle.jv_resolve_law.proofs.Classes.{enums_made, ClassesMade, classes_made}
use Rattle.jv_resolve_law.proofs.Methods.{standing, ResultIs, result_is, method_made}
use Rattle.jv_resolve_law.proofs.Numbering.{owned_in, owned_are, aligned_append, results, numbers_at}

-- Where names are apart, each class is the one of its name.
pub own_named : (program : Program) → AreDistinct (map (λ c. c.name) (classes_of program.files)) → (n : ℕ) (c : Source.Class) →
    slice_get (classes_of program.files) n ≡ Some c →
    class_named program.files c.name ≡ Some c
own_named program apart n c at =
    let w = finds (λ (k : Source.Class). bytes_eq k.name c.name) (classes_of program.files) n c at
    ((bytes_eq-Decides c.name c.name).1 refl) in
    let same = stands_once (λ (k : Source.Class). k.name) (classes_of program.files) w.number n w.item c apart w.at at
    (class_name program.files c.name w.item w.is) in
    w.is ∙ (sym w.at ∙ (ap (slice_get (classes_of program.files)) same ∙ at))

-- the same items, each in a relation that follows
aligned_by : {A B : Type 0} {P Q : A → B → Type 0} {xs : List A} {ys : List B} → Aligned P xs ys →
    ((n : ℕ) (x : A) (y : B) → slice_get xs n ≡ Some x → P x y → Q x y) → Aligned Q xs ys
aligned_by is.none f = is.none
aligned_by (is.more {a = a} {b = b} i rest) f = is.more (f zero a b refl i) (aligned_by rest (λ n x y at i. f (suc n) x y at i))

-- an entry, and where it stands
pub record EntryAt (program : Program) (tables : Tables) (e : Entry) : Type 0 where
  pub number : ℕ
  pub at : slice_get tables.classes number ≡ Some e
  pub is : IsEntry program number e

-- a method of an entry stands, where the fields and results are known that it may mention
pub stands_entered : (program : Program) (tables : Tables) (core : Core.Program) → IsTabled program tables →
    AreDistinct (map (λ c. c.name) (classes_of program.files)) → (e : Entry) → EntryAt program tables e → (m : Source.Method)
    (k : Core.Method) → Holds program core tables (standing e m) k → Stands core tables k (entered program e.class m) (standing e m)
stands_entered program tables core t apart e i m k holds = record {
  tabled = t;
  number = i.number;
  entry = i.is;
  class = refl;
  named = own_named program apart i.number e.class i.is.at;
  static = refl;
  holds = holds;
}

pub all_of : {A : Type 0} {P : A → Type 0} (xs : List A) → ((n : ℕ) (x : A) → slice_get xs n ≡ Some x → P x) → AllByRecursion P xs
all_of [] f = tt
all_of (x ∷ xs) f = (f zero x refl, all_of xs (λ n y at. f (suc n) y at))

-- The methods of all classes.
module _ (program : Program) (tables : Tables) (core : Core.Program)
    (stand : (e : Entry) → EntryAt program tables e → (m : Source.Method) (k : Core.Method) → k.class ≡ e.number →
    Stands core tables k (entered program e.class m) (standing e m)) where
  -- a method of the core stands for one of the source, if that is clean
  record IsIfClean (o : Owned) (k : Core.Method) : Type 0 where
    is : AllByRecursion NoFaultAt (method_spots program o.owner.class o.method) → MethodIs program core o k

  record Made (os : List Owned) (names : List Name) (r : Naming (List Core.Method)) : Type 0 where
    grown : Extends names r.names
    are : Extends r.names core.names → Aligned IsIfClean os r.it

  block_made : (e : Entry) → EntryAt program tables e → (ms : List Source.Method) (names : List Name) (r : Naming (List Core.Method)) →
      members.methods_of tables names e ms ≡ Some r →
      Made (map (owned_by e.number e.class) ms) names r
  block_made e i [] names r given = subst (Made [] names) (some_is given) (record { grown = λ n a q. q; are = λ k. is.none })
  block_made e i (m ∷ ms) names r given =
      let b = bound (method tables names e m) _ r given in
      let c = bound (members.methods_of tables b.item.names e ms) _ r b.gives in
      let w = method_made program tables core i.number e i.is names m b.item b.is
      (stand e i m b.item.it (result_is tables names e m b.item b.is).class) in
      let v = block_made e i ms b.item.names c.item c.is in
      subst (Made (map (owned_by e.number e.class) (m ∷ ms)) names) (some_is c.gives) (record {
        grown = λ n a q. v.grown n a (w.grown n a q);
        are = λ k. is.more (record { is = λ clean. w.is (λ n a q. k n a (v.grown n a q)) clean }) (v.are k);
      })

  all_made : (es : List Entry) → AllByRecursion (EntryAt program tables) es → (names : List Name) (r : Naming (List Core.Method)) →
      methods tables names es ≡ Some r →
      Made (owned_in es) names r
  all_made [] i names r given = subst (Made [] names) (some_is given) (record { grown = λ n a q. q; are = λ k. is.none })
  all_made (e ∷ es) i names r given =
      let b = bound (members.methods_of tables names e e.class.methods) _ r given in
      let c = bound (methods tables b.item.names es) _ r b.gives in
      let w = block_made e i.0 e.class.methods names b.item b.is in
      let v = all_made es i.1 b.item.names c.item c.is in
      subst (Made (owned_in (e ∷ es)) names) (some_is c.gives) (record {
        grown = λ n a q. v.grown n a (w.grown n a q);
        are = λ k. aligned_append (w.are (λ n a q. k n a (v.grown n a q))) (owned_in es) c.item.it (v.are k);
      })

-- the parts of a core
record Parts (program : Program) (core : Core.Program) : Type 0 where
  tables : Tables
  are_tables : tables_of program ≡ Some tables
  es : Naming (List Core.Enum)
  are_enums : enums [] tables.enums ≡ Some es
  cs : Naming (List Core.Class)
  are_classes : classes tables es.names tables.classes ≡ Some cs
  ms : Naming (List Core.Method)
  are_methods : methods tables cs.names tables.classes ≡ Some ms
  are : record { classes = cs.it; enums = es.it; methods = ms.it; typestates = program.typestates; names = ms.names } ≡ core

parts : (program : Program) (core : Core.Program) → resolving program ≡ Some core → Parts program core
parts program core given =
    let t = bound (tables_of program) _ core given in
    let es = bound (enums [] t.item.enums) _ core t.gives in
    let cs = bound (classes t.item es.item.names t.item.classes) _ core es.gives in
    let ms = bound (methods t.item cs.item.names t.item.classes) _ core cs.gives in
    record {
      tables = t.item;
      are_tables = t.is;
      es = es.item;
      are_enums = es.is;
      cs = cs.item;
      are_classes = cs.is;
      ms = ms.item;
      are_methods = ms.is;
      are = some_is ms.gives;
    }

abbrev core_of : (program : Program) (core : Core.Program) → Parts program core → Core.Program
core_of program core p = record {
  classes = p.cs.it;
  enums = p.es.it;
  methods = p.ms.it;
  typestates = program.typestates;
  names =
      p.ms.names;
}

module _ (program : Program) (whole : Core.Program) (p : Parts program whole) (t : IsTabled program p.tables)
    (apart : AreDistinct (map (λ c. c.name) (classes_of program.files))) where
  core : Core.Program
  core = core_of program whole p

  abbrev K : Core.Program
  K = core_of program whole p

  made_classes : ClassesMade program p.tables t p.es.names p.tables.classes p.cs
  made_classes = classes_made program p.tables t p.es.names p.tables.classes p.cs p.are_classes

  owned : owned_in p.tables.classes ≡ methods_of program
  owned = owned_are program.typestates 0 0 (classes_of program.files) p.tables.classes t.entries

  given_results : Aligned (ResultIs p.tables) (methods_of program) p.ms.it
  given_results = subst (λ os. Aligned (ResultIs p.tables) os p.ms.it) owned
      (results p.tables p.tables.classes p.cs.names p.ms p.are_methods)

  holds : (e : Entry) → EntryAt program p.tables e → (m : Source.Method) (k : Core.Method) → k.class ≡ e.number →
      Holds program K p.tables (standing e m) k
  holds e i m k same = record {
    fields = λ j f u at typed.
        let w = aligned_at made_classes.of i.number e i.at in
        ap (λ n. option_and_then (λ (c : Core.Class). option_map (λ (d : Core.Field). d.ty) (slice_get c.fields j))
        (slice_get p.cs.it n)) (same ∙ i.is.number)
        ∙ (ap (option_and_then (λ (c : Core.Class). option_map (λ (d : Core.Field). d.ty) (slice_get c.fields j))) w.at ∙
        w.is.types j f u at typed);
    results = λ n o u at typed.
        let w = aligned_at given_results n o at in
        ap (option_map (λ (m : Core.Method). m.result)) w.at ∙ (sym w.is.result ∙ typed);
  }

  stand : (e : Entry) → EntryAt program p.tables e → (m : Source.Method) (k : Core.Method) → k.class ≡ e.number →
      Stands K p.tables k (entered program e.class m) (standing e m)
  stand e i m k same = stands_entered program p.tables K t apart e i m k (holds e i m k same)

  made : Made program p.tables K stand (owned_in p.tables.classes) p.cs.names p.ms
  made = all_made program p.tables K stand p.tables.classes
      (all_of p.tables.classes (λ n e at. record { number = n; at = at; is = t.entry n e at })) p.cs.names p.ms p.are_methods

  methods_are : IsWellTyped program → Aligned (MethodIs program K) (methods_of program) p.ms.it
  methods_are well =
      let all = subst (λ os. Aligned (IsIfClean program p.tables K stand) os p.ms.it) owned (made.are (λ n a e. e)) in
      aligned_by all (λ n o k at i.
      let j = method_at program n o at in
      i.is (method_clean program well o.owner.number j.0 o.owner.class o.method (owner_at program.files n o at) j.1))

  classes_are : Aligned (ClassIs program K) (classes_of program.files) p.cs.it
  classes_are = subst (λ cs. Aligned (ClassIs program K) cs p.cs.it) t.classes
      (made_classes.are K made.grown (λ n e at. (t.entry n e at).follows))

  enums_are : Aligned (EnumIs program K) (enums_of program.files) p.es.it
  enums_are =
      let w = enums_made [] p.tables.enums p.es p.are_enums in
      subst (λ es. Aligned (EnumIs program K) es p.es.it) t.enums (w.are program K (λ n a e. made.grown n a (made_classes.grown n a e)))

  from_none : (n : ℕ) → n ≡ 0 + n
  from_none n = omega arith

  resolves : IsWellTyped program → AreBounded program K → Resolves program K
  resolves well bounded = record {
    classes = classes_are;
    class_methods = λ c k at.
        let e = aligned_behind made_classes.of c k at in
        e.is.methods
        ∙ sym (numbers_at p.tables program.typestates c 0 0 (classes_of program.files) p.tables.classes t.entries p.cs.names p.ms
        p.are_methods c e.item e.at (from_none c));
    enums = enums_are;
    methods = methods_are well;
    typestates = refl;
    bounded = bounded;
  }

pub resolving_is_right : ResolvingIsRight
resolving_is_right program core well given bounded =
    let p = parts program core given in
    let t = tabled program p.tables p.are_tables in
    let clean = no_fault program well.origins well.declarations in
    let apart = distinct_left (map (λ c. c.name) (classes_of program.files)) (map (λ e. e.name) (enums_of program.files))
    (types_apart program well.origins clean) in
    subst (Resolves program) p.are (resolves program core p t apart well (subst (AreBounded program) (sym p.are) bounded))
