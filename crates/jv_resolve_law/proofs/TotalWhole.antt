-- A well typed program is resolved.
use Rattle.std.proofs.Common.{◌≡◌, ℕ, zero, suc, List, [], ◌∷◌, map, Option, Some, None, option_map, option_and_then, slice_get, Contains}
use Rattle.std.proofs.Common.{ap, ◌∙◌, subst}
use Rattle.mg_text.specs.Call.{Name}
use Rattle.mg_read.specs.First.{Clean}
use Rattle.ts_tree.specs.Proper.{AreDistinct}
use Rattle.jv_tree.specs.Source
use Rattle.jv_meaning.specs.Program.{classes_of, enums_of}
use Rattle.jv_rules.specs.Program.{Program}
use Rattle.jv_rules.specs.Scope.{entered}
use Rattle.jv_rules.specs.Declarations.{FieldNeedsValue}
use Rattle.jv_rules.specs.Faults.{IsWellTyped}
use Rattle.jv_core.specs.declared.program.CoreType.{CoreType}
use Rattle.jv_core.specs.declared.program.CoreType.TheVariants as types
use Rattle.jv_core.specs.declared.program.MethodKind.TheVariants as kinds
use Rattle.jv_core.specs.Tree as Core
use Rattle.jv_names.specs.Resolves.{Owned, methods_of}
use Rattle.jv_names.proofs.Tables.{some_is, none_some, aligned_at, owner_at}
use Rattle.jv_names.proofs.Clean.{method_clean}
use Rattle.jv_names.proofs.Declared.{NoFault, no_fault, got_in, clean_part}
use Rattle.jv_names.proofs.Mentioned.{method_mentions, field_mentions, param_mentions, body_mentions_of}
use Rattle.jv_names.proofs.NamedApart.{types_apart}
use Rattle.jv_names.proofs.OneNumber.{distinct_left}
use Rattle.jv_names.proofs.Owned.{method_at}
use Rattle.jv_names.proofs.Slots.{all_holds}
use Rattle.jv_resolve_law.specs.Tables.{Entry, Tables, type_meant, tables_of}
use Rattle.jv_resolve_law.specs.Members.{Naming, enums, classes, methods}
use Rattle.jv_resolve_law.specs.Targets.{ClassAssignsVariables, OnlyVariablesAreAssigned}
use Rattle.jv_resolve_law.specs.Laws.{ResolvingIsTotal}
use Rattle.jv_resolve_law.proofs.Tabled.{IsTabled, tabled}
use Rattle.jv_resolve_law.proofs.Given.{Holds, Stands}
use Rattle.jv_resolve_law.proofs.Classes.{ClassesMade, classes_made}
use Rattle.jv_resolve_law.proofs.Methods.{standing}
use Rattle.jv_resolve_law.proofs.Whole.{EntryAt, stands_entered, all_of}
use Rattle.jv_resolve_law.proofs.Total.{given_bind, given_some, type_given}
use Rattle.jv_resolve_law.proofs.TotalExpressions.{AreMeant}
use Rattle.jv_resolve_law.proofs.TotalMembers.{enums_given, tables_given, FieldFine, classes_given, MethodFine, methods_given}

mapped_at : {A B : Type 0} (f : A → B) (xs : List A) (n : ℕ) (a : A) → slice_get xs n ≡ Some a → slice_get (map f xs) n ≡ Some (f a)
mapped_at f [] n a e = absurd (none_some e)
mapped_at f (x ∷ xs) zero a e = ap (λ x. Some (f x)) (some_is e)
mapped_at f (x ∷ xs) (suc n) a e = mapped_at f xs n a e

-- each item of a list without a fault has none
each_fine : {X C : Type 0} (At : X → C → Type 0) (xs : List X) → Clean At xs → (n : ℕ) (x : X) → slice_get xs n ≡ Some x → (c : C) →
    At x c → ⊥
each_fine At [] clean n x e c = absurd (none_some e)
each_fine At (y ∷ xs) clean zero x e c = subst (λ x. At x c → ⊥) (some_is e) (clean.0 c)
each_fine At (y ∷ xs) clean (suc n) x e c = each_fine At xs clean.1 n x e c

abbrev result_or_none : Option CoreType → CoreType
result_or_none None = types.Void
result_or_none (Some u) = u

-- a method with the result of one of the source, and nothing else
abbrev with_result : Tables → Owned → Core.Method
with_result tables o = record {
  place = o.method.place;
  end = o.method.end;
  class = o.owner.number;
  name = 0;
  kind = kinds.Static;
  result = result_or_none (type_meant tables o.method.result);
  params = 0;
  slots = [];
  loops = [];
  body = Core.NoStmt;
}

result_of_it : (tables : Tables) (o : Owned) (u : CoreType) → type_meant tables o.method.result ≡ Some u →
    (with_result tables o).result ≡ u
result_of_it tables o u e = known (type_meant tables o.method.result) e
  where
    known : (q : Option CoreType) → q ≡ Some u → result_or_none q ≡ u
    known None e = absurd (none_some e)
    known (Some v) e = some_is e

module _ (program : Program) (well : IsWellTyped program) (assigns : OnlyVariablesAreAssigned program) (tables : Tables)
    (t : IsTabled program tables) where
  clean : NoFault program well.origins
  clean = no_fault program well.origins well.declarations

  apart : AreDistinct (map (λ c. c.name) (classes_of program.files))
  apart = distinct_left (map (λ c. c.name) (classes_of program.files)) (map (λ e. e.name) (enums_of program.files))
      (types_apart program well.origins clean)

  nothing : Core.Program
  nothing = record { classes = []; enums = []; methods = []; typestates = []; names = [] }

  class_in : (e : Entry) → EntryAt program tables e → Contains (classes_of program.files) e.class
  class_in e i = got_in (classes_of program.files) i.number e.class i.is.at

  field_fine : (e : Entry) → EntryAt program tables e → (k : ℕ) (f : Source.Field) → slice_get e.class.fields k ≡ Some f →
      FieldFine program tables t f
  field_fine e i k f at = record {
    type = (field_mentions program well.origins clean e.class f (class_in e i) (got_in e.class.fields k f at)).0;
    value = each_fine (FieldNeedsValue program) e.class.fields
        (clean_part (FieldNeedsValue program) (λ (c : Source.Class). c.fields) (classes_of program.files) clean.values e.class
        (class_in e i)) k f at;
  }

  are_meant : (e : Entry) → EntryAt program tables e → AreMeant program tables e
  are_meant e i = record {
    fields = λ k f at. type_given program nothing tables t f.place f.ty (field_fine e i k f at).type;
    results = λ n o at.
        let j = method_at program n o at in
        type_given program nothing tables t o.method.place o.method.result
        (method_mentions program well.origins clean o.owner.class o.method
        (got_in (classes_of program.files) o.owner.number o.owner.class (owner_at program.files n o at))
        (got_in o.owner.class.methods j.0 o.method j.1)).0;
  }

  method_fine : (e : Entry) → EntryAt program tables e → (j : ℕ) (m : Source.Method) → slice_get e.class.methods j ≡ Some m →
      MethodFine program tables t e m
  method_fine e i j m at =
      let has = got_in e.class.methods j m at in
      record {
        result = (method_mentions program well.origins clean e.class m (class_in e i) has).0;
        params = param_mentions program well.origins clean e.class m (class_in e i) has;
        body = body_mentions_of program well.origins clean e.class m (class_in e i) has;
        spots = method_clean program well i.number j e.class m i.is.at at;
        assigns = all_holds _ e.class.methods (all_holds ClassAssignsVariables (classes_of program.files) assigns i.number e.class
            i.is.at) j m at;
      }

  entry_at : (n : ℕ) (e : Entry) → slice_get tables.classes n ≡ Some e → EntryAt program tables e
  entry_at n e at = record { number = n; at = at; is = t.entry n e at }

  module _ (names : List Name) (cs : Naming (List Core.Class)) (are_classes : classes tables names tables.classes ≡ Some cs) where
    abbrev core : Core.Program
    core = record { classes = cs.it; enums = []; methods = map (with_result tables) (methods_of program); typestates = []; names = [] }

    made : ClassesMade program tables t names tables.classes cs
    made = classes_made program tables t names tables.classes cs are_classes

    holds : (e : Entry) → EntryAt program tables e → (m : Source.Method) (k : Core.Method) → k.class ≡ e.number →
        Holds program core tables (standing e m) k
    holds e i m k same = record {
      fields = λ j f u at typed.
          let w = aligned_at made.of i.number e i.at in
          ap (λ n. option_and_then (λ (c : Core.Class). option_map (λ (d : Core.Field). d.ty) (slice_get c.fields j))
          (slice_get cs.it n)) (same ∙ i.is.number)
          ∙ (ap (option_and_then (λ (c : Core.Class). option_map (λ (d : Core.Field). d.ty) (slice_get c.fields j))) w.at ∙
          w.is.types j f u at typed);
      results = λ n o u at typed.
          ap (option_map (λ (m : Core.Method). m.result)) (mapped_at (with_result tables) (methods_of program) n o at) ∙
          ap Some (result_of_it tables o u typed);
    }

    stand : (e : Entry) → EntryAt program tables e → (m : Source.Method) (k : Core.Method) → k.class ≡ e.number →
        Stands core tables k (entered program e.class m) (standing e m)
    stand e i m k same = stands_entered program tables core t apart e i m k (holds e i m k same)

    methods_there : methods tables cs.names tables.classes ≡ None → ⊥
    methods_there =
        methods_given program tables t core stand are_meant cs.names tables.classes (all_of tables.classes entry_at)
        (all_of tables.classes (λ n e at. all_of e.class.methods (λ j m here. method_fine e (entry_at n e at) j m here)))

  classes_there : (names : List Name) → classes tables names tables.classes ≡ None → ⊥
  classes_there names =
      classes_given program tables t names tables.classes
      (all_of tables.classes (λ n e at. all_of e.class.fields (λ k f here. field_fine e (entry_at n e at) k f here)))

pub resolving_is_total : ResolvingIsTotal
resolving_is_total program well assigns =
    given_bind (tables_of program) _ (tables_given program (no_fault program well.origins well.declarations).typestates)
    (λ tables e. given_bind (enums [] tables.enums) _ (enums_given [] tables.enums)
    (λ es q. given_bind (classes tables es.names tables.classes) _
    (classes_there program well assigns tables (tabled program tables e) es.names)
    (λ cs z. given_bind (methods tables cs.names tables.classes) _
    (methods_there program well assigns tables (tabled program tables e) es.names cs z)
    (λ ms h. given_some _))))
