-- Calls: bodies mean the same with every budget.
use Rattle.std.proofs.Common.{◌≡◌, ℕ, zero, suc, Bool, true, false, List, [], ◌∷◌, length, map, Option, Some, None, slice_get, refl, sym}
use Rattle.std.proofs.Common.{ap, ◌∙◌, subst, ⊎_elim, inl, inr}
use Rattle.std.specs.Prelude.{if◌then◌else◌, is_some}
use Rattle.mg_text.specs.Call.{Name}
use Rattle.ts_tree.specs.declared.parts.TypeName.{TypeName}
use Rattle.ts_tree.specs.declared.parts.TypeName.TheVariants as written
use Rattle.jv_tree.specs.declared.tree.Param.{Param}
use Rattle.jv_tree.specs.Source
use Rattle.jv_values.specs.Values.{Value, Row, Shared, Lives, Inputs, Wrong, More, bound}
use Rattle.jv_values.specs.Doing.{Outcome, Gives, Ends, Run, stop, found}
use Rattle.jv_values.specs.Statements.{Completion, Normal, Breaks, Continues, Returns, Does}
use Rattle.jv_values.specs.Calls.{returned, result, body_from, suits, called}
use Rattle.jv_values.specs.Budget.{below}
use Rattle.jv_values.specs.Alike.{Alike, Completes, SameEnd}
use Rattle.jv_meaning.specs.Program.{class_named}
use Rattle.jv_meaning.specs.Names as names
use Rattle.jv_meaning.specs.Meaning as meant
use Rattle.jv_rules.specs.Program.{Program, is_of_protocol}
use Rattle.jv_rules.specs.Scope.{Scope, Declared, entered, declare, with_params}
use Rattle.jv_core.specs.declared.program.CoreType.{CoreType}
use Rattle.jv_core.specs.declared.program.MethodKind.TheVariants as kinds
use Rattle.jv_core.specs.Tree as Core
use Rattle.jv_core.specs.Numbering.{numbers_from}
use Rattle.jv_core.specs.Meaning as core_meaning
use Rattle.jv_names.specs.Resolves.{Numbers, Owned, first_slots, IsMethod, IsType, IsStmts, ClassIs, MethodIs, Resolves}
use Rattle.jv_names.specs.Resolves as resolves
use Rattle.jv_names.proofs.Rows.{Beside, Opt, none, bound_alike, slots_first}
use Rattle.jv_names.proofs.Tables.{class_name, method_is}
use Rattle.jv_names.proofs.Alike.{like_bind, halt, wrong, found_like, Living, Q, within_like}
use Rattle.jv_names.proofs.Variables.{Context, on_core, on_source}
use Rattle.jv_names.proofs.Exits.{GoesOn}
use Rattle.jv_names.proofs.Exits as exits
use Rattle.jv_names.proofs.Expressions.{Equals, Belows}
use Rattle.jv_names.proofs.Statements.{exec_like, stmts_like}

-- parameters change the locals alone
params_only : (ps : List Param) (scope : Scope) → with_params ps scope ≡ record scope { locals = (with_params ps scope).locals }
params_only [] scope = refl
params_only (p ∷ ps) scope = params_only ps (declare p.name p.ty scope)

-- where a method begins, with its parameters
abbrev starting : Program → Source.Class → Source.Method → Scope
starting program c m = record (entered program c m) { locals = (with_params m.params (entered program c m)).locals }

abbrev gives_result : TypeName → Bool
gives_result ty = elim ty [ written.Void ↦ false | _ ↦ true ]

-- what a body gives of a completion

given : (B C : Option ℕ → Option Name → Type 0) (has : Bool) (x : Completion ℕ) (y : Completion Name) → Completes B C x y →
    (s t : Shared) → s ≡ t →
    Alike ◌≡◌ ◌≡◌ SameEnd (found (returned has x) s) (found (returned has y) t)
given B C true Normal Normal w s t e = inl refl
given B C false Normal Normal w s t e = (refl, e)
given B C true (Returns None) (Returns u) w s t e = inl refl
given B C false (Returns (Some v)) (Returns u) w s t e = inl refl
given B C true (Returns (Some v)) (Returns u) w s t e = subst
    (λ u. Alike ◌≡◌ ◌≡◌ SameEnd (found (returned {K = ℕ} true (Returns (Some v))) s) (found (returned {K = Name} true (Returns u)) t)) w
    (refl, e)
given B C false (Returns None) (Returns u) w s t e = subst (λ u. Alike ◌≡◌ ◌≡◌ SameEnd (found (returned {K = ℕ} false (Returns None)) s)
    (found (returned {K = Name} false (Returns u)) t)) w (refl, e)
given B C true (Breaks k) y w s t e = inl refl
given B C false (Breaks k) y w s t e = inl refl
given B C true (Continues k) y w s t e = inl refl
given B C false (Continues k) y w s t e = inl refl
given B C _ _ _ w s t e = absurd w

body_like : (ds : List Declared) (ks : List ℕ) (B C : Option ℕ → Option Name → Type 0) (has : Bool) (r : Row ℕ) (r' : Row Name) →
    Beside ds ks r r' → {m : Does ℕ} {n : Does Name} →
    Q ds ks (Completion ℕ) (Completion Name) (Completes B C) m n → Equals (body_from has r m) (body_from has r' n)
body_like ds ks B C has r r' b h = record {
  by = λ s t st. go _ _ (h.by (record { locals = r; shared = s }) (record { locals = r'; shared = t })
      (record { locals = b; shared = st }));
}
  where
    go : (o : Outcome (Lives ℕ) (Completion ℕ)) (p : Outcome (Lives Name) (Completion Name)) → Alike (Living ds ks)
        (Completes B C) SameEnd o p →
        Alike ◌≡◌ ◌≡◌ SameEnd (result has o) (result has p)
    go (Gives x s) (Gives y t) a = given B C has x y a.0 s.shared t.shared a.1.shared
    go (Gives x s) (Ends f es) a = absurd a
    go (Ends f es) p a = ⊎_elim (λ w. inl w) (λ same. inr (ap (result has) same)) a

-- what a method is, in the core and in the source

runs_same : (st ta pr : Bool) →
    core_meaning.runs_on_object
    (elim st [
      | true ↦ elim ta [ true ↦ kinds.Main | false ↦ kinds.Static ]
      | false ↦
          elim pr [ true ↦ kinds.Protocol | false ↦ kinds.Helper ]
    ]) ≡ (if st then false else true)
runs_same true true pr = refl
runs_same true false pr = refl
runs_same false ta true = refl
runs_same false ta false = refl

result_same : (program : Program) (core : Core.Program) (ty : TypeName) (cty : CoreType) → IsType program core ty cty →
    core_meaning.is_result cty ≡ (elim ty [ written.Void ↦ false | _ ↦ true ])
result_same program core ty cty resolves.void_type = refl
result_same program core ty cty resolves.int_type = refl
result_same program core ty cty resolves.boolean_type = refl
result_same program core ty cty resolves.text_type = refl
result_same program core ty cty (resolves.class_type is) = refl
result_same program core ty cty (resolves.enum_type away is) = refl

has_object : (t : Bool) (this : Option ℕ) → suits t this ≡ true → is_some this ≡ t
has_object true (Some o) e = refl
has_object false None e = refl
has_object true None e = e
has_object false (Some o) e = sym e

module _ (program : Program) (core : Core.Program) (res : Resolves program core) (inputs : Inputs) where
  module _ (low : core_meaning.Lower) (high : meant.Lower) (b : Belows program core low high) where
    abbrev core_called : ℕ → Core.Method → Option ℕ → List Value → Run Shared (Option Value)
    core_called m k this vs = called ((core_meaning.language core inputs).exec low) (Some (core_meaning.as_run core m k)) this vs

    abbrev source_called : Name → Source.Method → Option ℕ → List Value → Run Shared (Option Value)
    source_called class method this vs = called ((meant.language program.files inputs).exec high)
        (Some (names.method_in class method)) this vs

    -- a method that stands for another does what this does
    pub runs_like : (class : Name) (m : ℕ) (o : Owned) (k : Core.Method) (kc : Core.Class) → MethodIs program core o k →
        slice_get core.methods m ≡ Some k → slice_get core.classes k.class ≡ Some kc →
        ClassIs program core o.owner.class kc → class_named program.files class ≡ Some o.owner.class → (this : Option ℕ)
        (vs : List Value) →
        Equals (core_called m k this vs) (source_called class o.method this vs)
    runs_like class m o k kc is here at class_is named this vs =
        like_bind ◌≡◌ (found_like _ _ bound_both) (λ r r' h. with_row r r' h)
      where
        bound_both : Opt (Beside (starting program o.owner.class o.method).locals (first_slots k.params))
            (bound (numbers_from 0 k.params) vs []) (bound (map (λ (p : Param). p.name) o.method.params) vs [])
        bound_both =
            subst (λ count. Opt (Beside (starting program o.owner.class o.method).locals (first_slots count))
            (bound (numbers_from 0 count) vs []) (bound (map (λ (p : Param). p.name) o.method.params) vs []))
            (sym is.count)
            (subst (λ ks. Opt (Beside (starting program o.owner.class o.method).locals ks)
            (bound (numbers_from 0 (length o.method.params)) vs []) (bound (map (λ (p : Param). p.name) o.method.params) vs []))
            (slots_first (length o.method.params)) (bound_alike o.method.params vs 0 (entered program o.owner.class o.method) [] none))

        body : IsStmts program core k (starting program o.owner.class o.method)
            (record { slots = first_slots k.params; loops = [] }) o.method.body k.body
        body = subst (λ scope. IsStmts program core k scope (record { slots = first_slots k.params; loops = [] }) o.method.body k.body)
            (params_only o.method.params (entered program o.owner.class o.method)) is.body

        owner_name : o.owner.class.name ≡ class
        owner_name = class_name program.files class o.owner.class named

        context : suits (if o.method.is_static then false else true) this ≡ true →
            Context program core o.owner.class o.method k m k.class this
        context e = record {
          at = here;
          core_class = kc;
          core_at = at;
          is = class_is;
          named = ap (class_named program.files) owner_name ∙ named;
          runs = has_object (if o.method.is_static then false else true) this e;
        }

        with_body : (r : Row ℕ) (r' : Row Name) → Beside (starting program o.owner.class o.method).locals (first_slots k.params) r r' →
            (has : Bool) (t : Bool) → suits (if o.method.is_static then false else true) this ≡ t →
            Equals (if t then body_from has r (core_meaning.exec_all core inputs low m (on_core k.class this) k.body) else stop Wrong)
            (if t then body_from has r' (meant.exec_all program.files inputs high (on_source o.owner.class.name this) o.method.body)
            else stop Wrong)
        with_body r r' h has true e =
            body_like (starting program o.owner.class o.method).locals (first_slots k.params) (exits.Breaks [] [])
            (GoesOn [] []) has r r' h
            (stmts_like program core res inputs low high b k m k.class this
            {scope = starting program o.owner.class o.method}
            {ns = record { slots = first_slots k.params; loops = [] }} (context e) body)
        with_body r r' h has false e = wrong

        with_row : (r : Row ℕ) (r' : Row Name) → Beside (starting program o.owner.class o.method).locals (first_slots k.params) r r' →
            Equals (if suits (core_meaning.runs_on_object k.kind) this then body_from (core_meaning.is_result k.result) r
            (core_meaning.exec_all core inputs low m (on_core k.class this) k.body) else stop Wrong)
            (if suits (if o.method.is_static then false else true) this then body_from (gives_result o.method.result) r'
            (meant.exec_all program.files inputs high (on_source class this) o.method.body) else stop Wrong)
        with_row r r' h =
            subst (λ u. Equals (if suits u this then body_from (core_meaning.is_result k.result) r
            (core_meaning.exec_all core inputs low m (on_core k.class this) k.body) else stop Wrong)
            (if suits (if o.method.is_static then false else true) this then body_from (gives_result o.method.result) r'
            (meant.exec_all program.files inputs high (on_source class this) o.method.body) else stop Wrong))
            (sym (ap core_meaning.runs_on_object is.kind ∙ runs_same o.method.is_static o.method.takes_args
            (is_of_protocol program o.owner.class o.method.name)))
            (subst (λ g. Equals (if suits (if o.method.is_static then false else true) this then body_from g r
            (core_meaning.exec_all core inputs low m (on_core k.class this) k.body) else stop Wrong)
            (if suits (if o.method.is_static then false else true) this then body_from (gives_result o.method.result) r'
            (meant.exec_all program.files inputs high (on_source class this) o.method.body) else stop Wrong))
            (sym (result_same program core o.method.result k.result is.result))
            (subst (λ d. Equals (if suits (if o.method.is_static then false else true) this then body_from
            (gives_result o.method.result) r (core_meaning.exec_all core inputs low m (on_core k.class this) k.body) else stop Wrong)
            (if suits (if o.method.is_static then false else true) this then body_from (gives_result o.method.result) r'
            (meant.exec_all program.files inputs high (on_source d this) o.method.body) else stop Wrong))
            owner_name (with_body r r' h (gives_result o.method.result) (suits (if o.method.is_static then false else true) this) refl)))

    called_like : (class f : Name) (m : ℕ) (method : Source.Method) → IsMethod program core class f m method → (this : Option ℕ)
        (vs : List Value) →
        Equals (called ((core_meaning.language core inputs).exec low) (core_meaning.method_of core m) this vs)
        (called ((meant.language program.files inputs).exec high) (names.method_of program.files (class, f)) this vs)
    called_like class f m method is this vs =
        let q = method_is program core res class f m method is in
        subst (λ x. Equals (called ((core_meaning.language core inputs).exec low) x this vs)
        (called ((meant.language program.files inputs).exec high) (names.method_of program.files (class, f)) this vs))
        (sym q.by_number)
        (subst (λ x. Equals (core_called m q.core_method this vs) (called ((meant.language program.files inputs).exec high) x this vs))
        (sym q.by_name)
        (runs_like class m
        (record { owner = q.owner; method = method }) q.core_method q.owner_class q.is q.here q.owner_here q.owner_is q.owner_named this
        vs))

  -- with every budget
  pub belows_like : (n : ℕ) → Belows program core (below (core_meaning.language core inputs) n)
      (below (meant.language program.files inputs) n)
  belows_like zero = record {
    call = λ class f m method is this vs. halt More;
    turn = λ scope ns method number c this at x. within_like scope.locals ns.slots (λ r r' h. halt More);
  }
  belows_like (suc n) = record {
    call = λ class f m method is this vs. called_like (below (core_meaning.language core inputs) n)
        (below (meant.language program.files inputs) n) (belows_like n) class f m method is this vs;
    turn = λ scope ns method number c this at x.
        exec_like program core res inputs (below (core_meaning.language core inputs) n) (below (meant.language program.files inputs) n)
        (belows_like n) method number c this at x;
  }
