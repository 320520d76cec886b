-- The core of a well typed program meets the conditions of cores.
use Rattle.std.proofs.Common.{◌≡◌, ℕ, [], ◌∷◌, ◌++◌, slice_get, Some, sym, ap, ◌∙◌, subst}
use Rattle.std.specs.List.{AllByRecursion}
use Rattle.std.proofs.lemmas.Option.{slice_get_within}
use Rattle.ts_tree.specs.Proper.{AreDistinct}
use Rattle.jv_tree.specs.Source
use Rattle.jv_tree.specs.Source.{ClassDecl}
use Rattle.jv_meaning.specs.Program.{classes_of}
use Rattle.jv_rules.specs.Program.{Program}
use Rattle.jv_rules.specs.Scope.{entered, with_params}
use Rattle.jv_rules.specs.Spots.{AtEnd, param_spots, stmts_spots}
use Rattle.jv_rules.specs.Shape.{IsShaped, IsShapedClass, IsShapedMethod}
use Rattle.jv_rules.specs.Faults.{IsWellTyped}
use Rattle.jv_core.specs.Tree as Core
use Rattle.jv_core.specs.Lookup.{text_at}
use Rattle.jv_core.specs.Conditions.{IsClass, IsMethod, IsCore}
use Rattle.jv_names.specs.Resolves.{Owned, MethodIs, methods_of, Resolves}
use Rattle.jv_names.specs.Resolves as is
use Rattle.jv_names.proofs.Tables.{text_is, aligned_at, owner_at}
use Rattle.jv_names.proofs.Clean.{NoFaultAt, all_left, method_clean}
use Rattle.jv_names.specs.KeptLaws.{CoreIsKept}
use Rattle.jv_names.proofs.Bodies.{body_kept}
use Rattle.jv_names.proofs.BodyIs.{IsKeptBody}
use Rattle.jv_names.proofs.Declared.{NoFault, no_fault, got_in}
use Rattle.jv_names.proofs.Apart.{fields_apart, methods_apart}
use Rattle.jv_names.proofs.NamedApart.{aligned_map, named_apart}
use Rattle.jv_names.proofs.Mentioned.{method_mentions, usable_result}
use Rattle.jv_names.proofs.Owned.{aligned_behind, method_at, names_of_methods}
use Rattle.jv_names.proofs.Fields.{fields_kept}
use Rattle.jv_names.proofs.Enums.{class_declared, members_clean, enums_kept}
use Rattle.jv_names.proofs.Params.{param_texts}
use Rattle.jv_names.proofs.MethodKinds.{kind_kept}
use Rattle.jv_names.proofs.Performing.{keeps_to}
use Rattle.jv_names.proofs.Slots.{all_at, all_holds, slots_kept, param_names_apart}

module _ (program : Program) (core : Core.Program) (well : IsWellTyped program) (shaped : IsShaped program) (res : Resolves program core)
  where
    declarations : NoFault program well.origins
    declarations = no_fault program well.origins well.declarations

    class_shaped : (c : ℕ) (class : Source.Class) → slice_get (classes_of program.files) c ≡ Some class → IsShapedClass class
    class_shaped c class at = all_holds IsShapedClass (classes_of program.files) shaped c class at

    class_is : (c : ℕ) (class : Source.Class) (k : Core.Class) → slice_get (classes_of program.files) c ≡ Some class →
        slice_get core.classes c ≡ Some k → is.ClassIs program core class k → IsClass core c k
    class_is c class k at here i =
        let declared = class_declared program.files class (got_in (classes_of program.files) c class at) in
        let members = members_clean program well.origins declarations (ClassDecl class) declared in
        record {
          name = slice_get_within core.names k.name class.name i.name;
          methods = res.class_methods c k here;
          fields = fields_kept program well.origins declarations core res class k.fields (got_in (classes_of program.files) c class at)
              (class_shaped c class at).fields i.fields;
          fields_apart = subst AreDistinct
              (sym (aligned_map i.fields (λ f. f.name) (λ f. text_at core f.name) (λ f d m. text_is program core res d.name f.name m.name)))
              (fields_apart class members);
          methods_apart = subst AreDistinct (sym (names_of_methods program core res c class at)) (methods_apart class members);
          keeps = keeps_to program well.origins declarations core res class c at k i;
        }

    classes_kept : (c : ℕ) (k : Core.Class) → slice_get core.classes c ≡ Some k → IsClass core c k
    classes_kept c k here =
        let b = aligned_behind res.classes c k here in
        class_is c b.item k b.at here b.is

    method_is : (n : ℕ) (o : Owned) (k : Core.Method) → slice_get (methods_of program) n ≡ Some o → slice_get core.methods n ≡ Some k →
        MethodIs program core o k → IsKeptBody core k → IsMethod core k
    method_is n o k at here i body =
        let owner = owner_at program.files n o at in
        let place = method_at program n o at in
        let c = aligned_at res.classes o.owner.number o.owner.class owner in
        let class_at : slice_get core.classes k.class ≡ Some c.item = ap (slice_get core.classes) i.class ∙ c.at in
        let of = got_in (classes_of program.files) o.owner.number o.owner.class owner in
        let has = got_in o.owner.class.methods place.0 o.method place.1 in
        let shape : IsShapedMethod o.method =
        all_holds IsShapedMethod o.owner.class.methods (class_shaped o.owner.number o.owner.class owner).methods place.0 o.method place.1 in
        let scope = entered program o.owner.class o.method in
        let spots = all_left NoFaultAt (param_spots scope o.method.params)
        (stmts_spots (with_params o.method.params scope) o.method.body ++ AtEnd o.method ∷ [])
        (method_clean program well o.owner.number place.0 o.owner.class o.method owner place.1) in
        record {
          class = c.item;
          class_at = class_at;
          name = slice_get_within core.names k.name o.method.name i.name;
          kind = kind_kept program core res o k i owner shape;
          result = usable_result program well.origins declarations core res o.method.place o.method.result k.result
              (method_mentions program well.origins declarations o.owner.class o.method of has).0 i.result;
          slots = slots_kept program well.origins declarations core res k o i of has shape;
          count = all_holds (is.HasFewSlots program core) core.methods res.bounded.methods n k here c.item class_at;
          numbered = i.numbered;
          params_apart = subst AreDistinct (sym (param_texts program core res k o.method.params i.count i.params))
              (param_names_apart scope o.method.params spots);
          body = body.body;
          returns = body.returns;
        }

    methods_kept : AllByRecursion (IsMethod core) core.methods
    methods_kept = all_at (IsMethod core) core.methods (λ n k here.
        let b = aligned_behind res.methods n k here in
        method_is n b.item k b.at here b.is (body_kept program core well res n b.item k b.at here b.is))

    core_kept : IsCore core
    core_kept = record {
      named_apart = named_apart program core well.origins well.numbered declarations res;
      classes = classes_kept;
      enums = enums_kept program well.origins declarations core res;
      methods = methods_kept;
    }

pub core_is_kept : CoreIsKept
core_is_kept program core well shaped res = core_kept program core well shaped res
