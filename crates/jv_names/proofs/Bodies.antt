-- The bodies of a core's methods are as they must be.
use Rattle.std.proofs.Common.{◌≡◌, ◌≢◌, ℕ, suc, ◌+◌, List, [], ◌∷◌, ◌++◌, length, reverse, slice_get, Some, refl, ap, ◌∙◌, subst, arith}
use Rattle.std.specs.List.{AllByRecursion}
use Rattle.mg_read.specs.Culprit.{culprit}
use Rattle.mg_read.specs.First.{Clean}
use Rattle.ts_tree.specs.Proper.{AreDistinct}
use Rattle.ts_tree.specs.declared.parts.TypeName.TheVariants as written
use Rattle.jv_tree.specs.declared.tree.Param.{Param}
use Rattle.jv_meaning.specs.Program.{classes_of}
use Rattle.jv_rules.specs.Program.{Program}
use Rattle.jv_rules.specs.Scope.{Scope, entered, declare, with_params}
use Rattle.jv_rules.specs.Spots.{AtEnd, param_spots, stmts_spots, method_spots}
use Rattle.jv_rules.specs.Members.{mentions_in_stmts}
use Rattle.jv_rules.specs.Declarations.{UnknownClass}
use Rattle.jv_rules.specs.Faults.{IsWellTyped}
use Rattle.jv_core.specs.declared.program.CoreType.{CoreType}
use Rattle.jv_core.specs.declared.program.CoreType.TheVariants as types
use Rattle.jv_core.specs.Tree as Core
use Rattle.jv_core.specs.Statements.{FineAll}
use Rattle.jv_core.specs.Completes.{Completes}
use Rattle.jv_core.specs.Members.{type_names}
use Rattle.jv_core.specs.Numbering.{numbers_from}
use Rattle.jv_names.specs.Resolves.{Numbers, Owned, IsType, IsStmts, AreParams, no_param, param, MethodIs, methods_of, first_slots}
use Rattle.jv_names.specs.Resolves.{Resolves}
use Rattle.jv_names.specs.Resolves as is
use Rattle.jv_names.proofs.Tables.{aligned_at, owner_at}
use Rattle.jv_names.proofs.BodyIs.{IsKeptBody}
use Rattle.jv_names.proofs.Clean.{NoFaultAt, all_left, all_right, method_clean}
use Rattle.jv_names.proofs.Completing as completing
use Rattle.jv_names.proofs.Declared.{no_fault}
use Rattle.jv_names.proofs.Locals.{AreLocals, declared}
use Rattle.jv_names.proofs.Mentioned.{body_mentions}
use Rattle.jv_names.proofs.NamedApart.{type_names_apart}
use Rattle.jv_names.proofs.Naming.{Runs}
use Rattle.jv_names.proofs.OneNumber.{is_named}
use Rattle.jv_names.proofs.Owned.{method_at}
use Rattle.jv_names.proofs.Stating.{are_stated}
use Rattle.jv_names.proofs.Scopes.{first_slots_are}

-- parameters change the locals in scope alone
with_params_is : (ps : List Param) (sc : Scope) → with_params ps sc ≡ record sc { locals = (with_params ps sc).locals }
with_params_is [] sc = refl
with_params_is (p ∷ ps) sc = with_params_is ps (declare p.name p.ty sc)

-- the parameters are in scope at the beginning
params_in_scope : (core : Core.Program) (m : Core.Method) (ps : List Param) (sc : Scope) (n : ℕ) → AreParams sc.program core m n ps →
    AreLocals sc.program core m sc.locals (first_slots n) →
    AreLocals sc.program core m (with_params ps sc).locals (first_slots (n + length ps))
params_in_scope core m [] sc n h locals =
    let count : n ≡ n + length {A = Param} [] = omega arith in
    subst (λ k. AreLocals sc.program core m sc.locals (first_slots k)) count locals
params_in_scope core m (p ∷ ps) sc n (param s rest) locals =
    let count : suc n + length ps ≡ n + length (p ∷ ps) = omega arith in
    subst (λ k. AreLocals sc.program core m (with_params ps (declare p.name p.ty sc)).locals (first_slots k)) count
    (params_in_scope core m ps (declare p.name p.ty sc) (suc n) rest (declared sc.program core m sc.locals (first_slots n) p.name p.ty n s
    locals))

-- a result that is void
of_void : (program : Program) (core : Core.Program) (t : CoreType) → IsType program core written.Void t → t ≡ types.Void
of_void program core _ is.void_type = refl

module _ (program : Program) (core : Core.Program) (well : IsWellTyped program) (res : Resolves program core) where
  names_apart : AreDistinct (type_names core)
  names_apart = type_names_apart program core well.origins (no_fault program well.origins well.declarations) res

  module _ (n : ℕ) (o : Owned) (k : Core.Method) (at : slice_get (methods_of program) n ≡ Some o)
      (here : slice_get core.methods n ≡ Some k) (i : MethodIs program core o k) where
    owner : slice_get (classes_of program.files) o.owner.number ≡ Some o.owner.class
    owner = owner_at program.files n o at

    runs : Runs core k program o.owner.class o.method
    runs =
        let c = aligned_at res.classes o.owner.number o.owner.class owner in
        record {
          core_class = c.item;
          at = ap (slice_get core.classes) i.class ∙ c.at;
          is = c.is;
          source_at = ap (slice_get (classes_of program.files)) i.class ∙ owner;
          named = is_named program core res names_apart o.owner.number o.owner.class owner;
          kind = i.kind;
        }

    begins : Scope
    begins = entered program o.owner.class o.method

    in_scope : AreLocals program core k (with_params o.method.params begins).locals (first_slots k.params)
    unfolding begins
    in_scope =
        let count : 0 + length o.method.params ≡ k.params = omega (arith, i.count) in
        subst (λ n. AreLocals program core k (with_params o.method.params begins).locals (first_slots n)) count
        (params_in_scope core k o.method.params begins 0 i.params is.none)

    -- the body, in the scope of the parameters
    body_fine : AllByRecursion NoFaultAt (method_spots program o.owner.class o.method) →
        Clean (UnknownClass program) (mentions_in_stmts o.method.body) → FineAll core k (reverse (numbers_from 0 k.params)) [] k.body
    unfolding begins
    body_fine spots mentions =
        let locals = (with_params o.method.params begins).locals in
        let sc : Scope = record begins { locals = locals } in
        let same : with_params o.method.params begins ≡ sc = with_params_is o.method.params begins in
        let body : IsStmts program core k sc (record { slots = first_slots k.params; loops = [] }) o.method.body k.body =
        subst (λ sc. IsStmts program core k sc (record { slots = first_slots k.params; loops = [] }) o.method.body k.body) same i.body in
        let clean : AllByRecursion NoFaultAt (stmts_spots sc o.method.body) =
        subst (λ sc. AllByRecursion NoFaultAt (stmts_spots sc o.method.body)) same
        (all_left NoFaultAt (stmts_spots (with_params o.method.params begins) o.method.body) (AtEnd o.method ∷ [])
        (all_right NoFaultAt (param_spots begins o.method.params)
        (stmts_spots (with_params o.method.params begins) o.method.body ++ AtEnd o.method ∷ []) spots)) in
        subst (λ slots. FineAll core k slots [] k.body) (first_slots_are k.params)
        (are_stated core k n here sc (record { slots = first_slots k.params; loops = [] }) o.method.body k.body res names_apart runs
        in_scope i.result
        body clean mentions)

    -- the body of a method with a result can't complete
    no_completing : AllByRecursion NoFaultAt (method_spots program o.owner.class o.method) → k.result ≢ types.Void → Completes k.body → ⊥
    unfolding begins
    no_completing spots some completes =
        let end = all_right NoFaultAt (stmts_spots (with_params o.method.params begins) o.method.body) (AtEnd o.method ∷ [])
        (all_right NoFaultAt (param_spots begins o.method.params)
        (stmts_spots (with_params o.method.params begins) o.method.body ++ AtEnd o.method ∷ []) spots) in
        end.0.returns (culprit o.method.end []) (
          refl,
          (λ void. some (of_void program core k.result (subst (λ ty. IsType program core ty k.result) void i.result))),
          completing.completes_alike program core k (with_params o.method.params begins)
              (record { slots = first_slots k.params; loops = [] })
              o.method.body k.body i.body completes,
        )

    pub body_kept : IsKeptBody core k
    body_kept =
        let place = method_at program n o at in
        let spots = method_clean program well o.owner.number place.0 o.owner.class o.method owner place.1 in
        record {
          body = body_fine spots (body_mentions program well o.owner.number place.0 o.owner.class o.method owner place.1);
          returns = no_completing spots;
        }
