-- What is resolved of clean statements is well typed.
use Rattle.std.proofs.Common.{◌≡◌, ◌≢◌, ℕ, List, [], ◌∷◌, ◌++◌, map, reverse, Option, Some, None, option_map, option_and_then, slice_get}
use Rattle.std.proofs.Common.{refl, sym, ap, ◌∙◌, subst}
use Rattle.std.specs.List.{AllByRecursion}
use Rattle.mg_text.specs.Call.{Name}
use Rattle.mg_text.specs.declared.place.Place.{Place}
use Rattle.mg_read.specs.Culprit.{culprit}
use Rattle.mg_read.specs.First.{Clean}
use Rattle.ts_tree.specs.declared.parts.TypeName.{TypeName}
use Rattle.ts_tree.specs.Proper.{AreDistinct}
use Rattle.jv_tree.specs.Source
use Rattle.jv_rules.specs.Program.{Program}
use Rattle.jv_rules.specs.Types.{ValueType, IntType, BooleanType, TextType, EnumType, ClassType, NullType, meant}
use Rattle.jv_rules.specs.Scope.{Scope, Loop, Switch, within, declare, behind, local_named}
use Rattle.jv_rules.specs.Spots.{Spot, AtStatement, expr_spots, stmt_spots, stmts_spots, group_spots}
use Rattle.jv_rules.specs.Taking.{Fitting, Nothing, taken, all_taken, assigned, returned, returned_nothing, result_of}
use Rattle.jv_rules.specs.Conditions.{TypeMismatch}
use Rattle.jv_rules.specs.Members.{mentions_in, mentions_in_stmt, mentions_in_stmts, mentions_in_groups}
use Rattle.jv_rules.specs.Declarations.{UnknownClass}
use Rattle.jv_tree.specs.BuiltIn.{session_method}
use Rattle.jv_core.proofs.PlainTypes.{no_enum as plain_no_enum}
use Rattle.jv_core.specs.declared.tree.CoreVar.{CoreVar}
use Rattle.jv_tree.specs.declared.built_in.SessionCall.{SessionCall}
use Rattle.jv_core.specs.declared.program.CoreType.{CoreType}
use Rattle.jv_core.specs.declared.program.CoreType.TheVariants as types
use Rattle.jv_core.specs.Tree as Core
use Rattle.jv_core.specs.Lookup.{variable_type}
use Rattle.jv_core.specs.Meaning.{type_given}
use Rattle.jv_core.specs.Types.{Has, session_result}
use Rattle.jv_core.specs.Types as has
use Rattle.jv_core.specs.Statements.{Fine, FineAll, FineGroups, Declares, MayReturn}
use Rattle.jv_core.specs.Statements as fine
use Rattle.jv_core.specs.Members.{type_names}
use Rattle.jv_names.specs.Resolves.{Numbers, IsExpr, IsSlot, IsValue, IsStmt, IsStmts, IsGroups, IsType, Resolves, with_slot, in_loop}
use Rattle.jv_names.specs.Resolves.{in_switch}
use Rattle.jv_names.specs.Resolves as is
use Rattle.jv_names.proofs.Tables.{some_is, none_some, aligned_at}
use Rattle.jv_names.proofs.Clean.{NoFaultAt, CleanExpr, all_left, all_right}
use Rattle.jv_names.proofs.Fitting.{suited}
use Rattle.jv_names.proofs.Labels.{are_cases}
use Rattle.jv_names.proofs.Locals.{AreLocals, declared, is_new}
use Rattle.jv_names.proofs.Naming.{Runs}
use Rattle.jv_names.proofs.Scopes.{target, may_break, may_continue}
use Rattle.jv_names.proofs.TypesMeet.{Meets, meant_meets}
use Rattle.jv_names.proofs.TypesMeet as meets
use Rattle.jv_names.proofs.Typing.{clean_left, clean_right, fitted, shown, enumerated, evaluated, target_typed}

none_there : {A : Type 0} (o : Option A) → (o ≢ None → ⊥) → o ≡ None
none_there None n = refl
none_there (Some a) n = absurd (n (λ e. none_some (sym e)))

enum_is : {a b : ℕ} → types.Enum a ≡ types.Enum b → a ≡ b
enum_is e = cc

no_enum : (c : SessionCall) (n : ℕ) → session_result c ≡ types.Enum n → ⊥
no_enum c n e = plain_no_enum (session_method c).result n e

-- the enum whose constants an expression gives
enum_given : (core : Core.Program) (m : Core.Method) (slots : List ℕ) (number : ℕ) → slice_get core.methods number ≡ Some m →
    (e : Core.Expr) (n : ℕ) →
    Has core m slots e (types.Enum n) → type_given core number e ≡ Some (types.Enum n)
enum_given core m slots number at _ n (has.variable {x = x} v) = ap (option_and_then (λ m. variable_type core m x)) at ∙ v.type
enum_given core m slots number at _ _ (has.constant e lt) = refl
enum_given core m slots number at _ n (has.protocol v c xs r s) = ap (option_map (λ (k : Core.Method). k.result)) c.at ∙ ap Some r
enum_given core m slots number at _ n (has.helper i c o xs r) = ap (option_map (λ (k : Core.Method). k.result)) c.at ∙ ap Some r
enum_given core m slots number at _ n (has.static c xs r) = ap (option_map (λ (k : Core.Method). k.result)) c.at ∙ ap Some r
enum_given core m slots number at _ n (has.session {c = c} xs r) = absurd (no_enum c n r)

module _ (program : Program) (core : Core.Program) (res : Resolves program core) (apart : AreDistinct (type_names core))
    (m : Core.Method) (number : ℕ) (numbered : slice_get core.methods number ≡ Some m) where
  -- what is known of the method, with these locals in scope
  pub record Here (sc : Scope) (ns : Numbers) : Type 0 where
    pub same : program ≡ sc.program
    pub runs : Runs core m sc.program sc.class sc.method
    pub locals : AreLocals sc.program core m sc.locals ns.slots
    pub result : IsType sc.program core sc.method.result m.result

  in_the_loop : {sc : Scope} {ns : Numbers} (l : Option Name) (k : ℕ) → Here sc ns → Here (within (Loop l) sc) (in_loop k ns)
  in_the_loop l k h = record { same = h.same; runs = h.runs; locals = h.locals; result = h.result }

  in_the_switch : {sc : Scope} {ns : Numbers} → Here sc ns → Here (within Switch sc) (in_switch ns)
  in_the_switch h = record { same = h.same; runs = h.runs; locals = h.locals; result = h.result }

  slot_is : {sc : Scope} {ns : Numbers} {k : ℕ} {x : Name} {ty : TypeName} → Here sc ns → IsSlot program core m k x ty →
      IsSlot sc.program core m k x ty
  slot_is {k = k} {x = x} {ty = ty} h s = subst (λ p. IsSlot p core m k x ty) h.same s

  pub with_local : {sc : Scope} {ns : Numbers} (k : ℕ) (x : Name) (ty : TypeName) → Here sc ns → IsSlot program core m k x ty →
      Here (declare x ty sc) (with_slot k ns)
  with_local {sc} {ns} k x ty h s = record {
    same = h.same;
    runs = h.runs;
    locals = declared sc.program core m sc.locals ns.slots x ty k (slot_is h s) h.locals;
    result = h.result;
  }

  -- Expressions.

  module _ (sc : Scope) (ns : Numbers) (h : Here sc ns) where
    abbrev H : Core.Expr → CoreType → Type 0
    H = Has core m ns.slots

    resolved : Resolves sc.program core
    resolved = subst (λ p. Resolves p core) h.same res

    abbrev E : Source.Expr → Core.Expr → Type 0
    E = IsExpr program core sc ns

    abbrev Made : Source.Expr → Type 0
    Made e = Clean (UnknownClass program) (mentions_in e)

    expr_is : {e : Source.Expr} {e' : Core.Expr} → E e e' → IsExpr sc.program core sc ns e e'
    expr_is {e} {e'} x = subst (λ p. IsExpr p core sc ns e e') h.same x

    made_is : (e : Source.Expr) → Made e → Clean (UnknownClass sc.program) (mentions_in e)
    made_is e made = subst (λ p. Clean (UnknownClass p) (mentions_in e)) h.same made

    -- a value of this type is taken
    fits_in : {e : Source.Expr} {e' : Core.Expr} → E e e' → CleanExpr sc e → Made e → (t : ValueType) (u : CoreType) →
        Clean TypeMismatch (all_taken sc (taken e (Fitting t) ∷ [])) → Meets sc.program core t u → H e' u
    fits_in {e} {e'} x clean made t u tk meet =
        fitted core m sc ns resolved apart h.runs h.locals (expr_is x) clean (made_is e made) t u tk meet

    condition : {e : Source.Expr} {e' : Core.Expr} → E e e' → CleanExpr sc e → Made e →
        Clean TypeMismatch (all_taken sc (taken e (Fitting BooleanType) ∷ [])) → H e' types.Boolean
    condition x clean made tk = fits_in x clean made BooleanType types.Boolean tk meets.boolean

    -- a local is declared
    declares : {k : ℕ} {x : Name} {ty : TypeName} {e : Source.Expr} {e' : Core.Expr} (p : Place) → E e e' → IsSlot program core m k x ty →
        AllByRecursion NoFaultAt (stmt_spots sc (Source.Local p ty x e)) → Made e → Declares core m ns.slots k e'
    declares {k} {x} {ty} {e} {e'} p ex slot spots made =
        let s = slot_is h slot in
        let spot = (all_right NoFaultAt (expr_spots sc e) (AtStatement sc (Source.Local p ty x e) ∷ []) spots).0 in
        record {
          type = s.slot.ty;
          is = ap (option_map (λ (s : Core.Slot). s.ty)) s.at;
          value =
              fits_in ex (all_left NoFaultAt (expr_spots sc e) (AtStatement sc (Source.Local p ty x e) ∷ []) spots) made
              (meant sc.program ty) s.slot.ty spot.types (meant_meets sc.program core ty s.slot.ty s.type);
          new = is_new sc.program core m sc ns.slots x ty k h.locals s
              (none_there (local_named sc x) (λ n. spot.new_local (culprit p x) (refl, n)));
        }

    -- `return`
    nothing_returned : (p : Place) (t : ValueType) (u : CoreType) → Meets sc.program core t u → Clean TypeMismatch (returned_nothing t p) →
        u ≡ types.Void
    nothing_returned p t _ meets.no_value clean = refl
    nothing_returned p t _ meets.int clean = absurd (clean.0 (culprit p []) refl)
    nothing_returned p t _ meets.boolean clean = absurd (clean.0 (culprit p []) refl)
    nothing_returned p t _ meets.text clean = absurd (clean.0 (culprit p []) refl)
    nothing_returned p t _ (meets.class i) clean = absurd (clean.0 (culprit p []) refl)
    nothing_returned p t _ (meets.enum i) clean = absurd (clean.0 (culprit p []) refl)
    nothing_returned p t _ meets.null clean = absurd (clean.0 (culprit p []) refl)

    value_returned : {e : Source.Expr} {e' : Core.Expr} → E e e' → CleanExpr sc e → Made e → (t : ValueType) (u : CoreType) →
        Meets sc.program core t u →
        Clean TypeMismatch (all_taken sc (returned t e)) → (u ≢ types.Void) × H e' u
    value_returned {e} x clean made t _ meets.no_value tk = absurd (suited sc e Nothing [] tk).suits
    value_returned x clean made t u meets.int tk = ((λ e. cc), fits_in x clean made IntType types.Int tk meets.int)
    value_returned x clean made t u meets.boolean tk = ((λ e. cc), fits_in x clean made BooleanType types.Boolean tk meets.boolean)
    value_returned x clean made t u meets.text tk = ((λ e. cc), fits_in x clean made TextType types.Text tk meets.text)
    value_returned x clean made _ _ (meets.class {name = name} {c = c} i) tk =
        ((λ e. cc), fits_in x clean made (ClassType name) (types.Object c) tk (meets.class i))
    value_returned x clean made _ _ (meets.enum {name = name} {e = n} i) tk =
        ((λ e. cc), fits_in x clean made (EnumType name) (types.Enum n) tk (meets.enum i))
    value_returned x clean made t _ (meets.null {c = c}) tk = ((λ e. cc), fits_in x clean made NullType (types.Object c) tk meets.null)

    may_return : (p : Place) (e : Option Source.Expr) (e' : Option Core.Expr) → IsValue program core sc ns e e' →
        AllByRecursion NoFaultAt (stmt_spots sc (Source.Return p e)) → Clean (UnknownClass program) (mentions_in_stmt (Source.Return p e)) →
        MayReturn core m ns.slots e'
    may_return p _ _ is.without spots made =
        nothing_returned p (result_of sc) m.result (meant_meets sc.program core sc.method.result m.result h.result) spots.0.types
    may_return p _ _ (is.with_value {e = e} x) spots made =
        let at : List Spot = AtStatement sc (Source.Return p (Some e)) ∷ [] in
        value_returned x (all_left NoFaultAt (expr_spots sc e) at spots) made (result_of sc) m.result
        (meant_meets sc.program core sc.method.result m.result h.result) (all_right NoFaultAt (expr_spots sc e) at spots).0.types

    -- an assignment
    assigns : {t e : Source.Expr} {x : CoreVar} {e' : Core.Expr} (p : Place) → is.IsPlaced program core sc ns t x → E e e' →
        AllByRecursion NoFaultAt (stmt_spots sc (Source.Assign p t e)) → Made e → Fine core m ns.slots (map target ns.loops)
        (Core.Assign p x e')
    assigns {t} {e} {x} {e'} p placed ex spots made =
        let at : List Spot = AtStatement sc (Source.Assign p t e) ∷ [] in
        let more = all_right NoFaultAt (expr_spots sc t) (expr_spots sc e ++ at) spots in
        let v = target_typed core m sc ns resolved apart h.runs h.locals
        (subst (λ p. is.IsVar p core sc ns t x.var) h.same placed.is) (all_left NoFaultAt (expr_spots sc t) (expr_spots sc e ++ at) spots)
        in
        let tk = subst (λ o. Clean TypeMismatch (all_taken sc (assigned o e))) v.2 (all_right NoFaultAt (expr_spots sc e) at more).0.types
        in
        fine.assign v.4 (fits_in ex (all_left NoFaultAt (expr_spots sc e) at more) made v.0 v.1 tk v.3)

  stays : (s : Source.Stmt) (sc : Scope) → ((p : Place) (ty : TypeName) (x : Name) (e : Source.Expr) → s ≢ Source.Local p ty x e) →
      behind s sc ≡ sc
  stays (Source.Local p ty x e) sc n = absurd (n p ty x e refl)
  stays s sc n = refl

  abbrev F : Numbers → Core.Stmt → Type 0
  F ns = Fine core m ns.slots (map target ns.loops)

  abbrev AreClean : List Spot → Type 0
  AreClean spots = AllByRecursion NoFaultAt spots

  mutual
    pub states : {sc : Scope} {ns : Numbers} {s : Source.Stmt} {s' : Core.Stmt} → IsStmt program core m sc ns s s' → Here sc ns →
        AreClean (stmt_spots sc s) → Clean (UnknownClass program) (mentions_in_stmt s) → F ns s'
    states (is.block body) h spots made = fine.block (all_state body h spots made)
    states is.empty h spots made = fine.empty
    states {sc} {ns} (is.local {p = p} ex slot) h spots made = fine.local (declares sc ns h p ex slot spots made.1)
    states {sc} {ns} (is.assign {p = p} {target = t} {value = e} placed ex) h spots made =
        assigns sc ns h p placed ex spots (clean_right (UnknownClass program) (mentions_in t) (mentions_in e) made)
    states {sc} {ns} (is.if_then {p = p} {c = c} {s = s} x y) h spots made =
        let more = all_right NoFaultAt (expr_spots sc c) (AtStatement sc (Source.If p c s) ∷ stmt_spots sc s) spots in
        fine.if_true
        (condition sc ns h x (all_left NoFaultAt (expr_spots sc c) (AtStatement sc (Source.If p c s) ∷ stmt_spots sc s) spots)
        (clean_left (UnknownClass program) (mentions_in c) (mentions_in_stmt s) made) more.0.types)
        (states y h more.1 (clean_right (UnknownClass program) (mentions_in c) (mentions_in_stmt s) made))
    states {sc} {ns} (is.if_else {p = p} {c = c} {s = s} {r = r} x y z) h spots made =
        let behind_c : List Spot = AtStatement sc (Source.IfElse p c s r) ∷ (stmt_spots sc s ++ stmt_spots sc r) in
        let more = all_right NoFaultAt (expr_spots sc c) behind_c spots in
        let made_more = clean_right (UnknownClass program) (mentions_in c) (mentions_in_stmt s ++ mentions_in_stmt r) made in
        fine.if_else
        (condition sc ns h x (all_left NoFaultAt (expr_spots sc c) behind_c spots)
        (clean_left (UnknownClass program) (mentions_in c) (mentions_in_stmt s ++ mentions_in_stmt r) made) more.0.types)
        (states y h (all_left NoFaultAt (stmt_spots sc s) (stmt_spots sc r) more.1)
        (clean_left (UnknownClass program) (mentions_in_stmt s) (mentions_in_stmt r) made_more))
        (states z h (all_right NoFaultAt (stmt_spots sc s) (stmt_spots sc r) more.1)
        (clean_right (UnknownClass program) (mentions_in_stmt s) (mentions_in_stmt r) made_more))
    states {sc} {ns} (is.while_loop {p = p} {l = l} {k = k} {c = c} {s = s} at x y) h spots made =
        let behind_c : List Spot = AtStatement sc (Source.While p l c s) ∷ stmt_spots (within (Loop l) sc) s in
        let more = all_right NoFaultAt (expr_spots sc c) behind_c spots in
        fine.while_true (record { loop = record { place = p; scope = reverse ns.slots }; at = at; scope_is = refl })
        (condition sc ns h x (all_left NoFaultAt (expr_spots sc c) behind_c spots)
        (clean_left (UnknownClass program) (mentions_in c) (mentions_in_stmt s) made) more.0.types)
        (states y (in_the_loop l k h) more.1 (clean_right (UnknownClass program) (mentions_in c) (mentions_in_stmt s) made))
    states {sc} {ns} (is.do_loop {p = p} {l = l} {k = k} {c = c} {s = s} at y x) h spots made =
        let end : List Spot = AtStatement sc (Source.Do p l s c) ∷ [] in
        let inner : List Spot = stmt_spots (within (Loop l) sc) s in
        let more = all_right NoFaultAt inner (expr_spots sc c ++ end) spots in
        fine.do_while (record { loop = record { place = p; scope = reverse ns.slots }; at = at; scope_is = refl })
        (states y (in_the_loop l k h) (all_left NoFaultAt inner (expr_spots sc c ++ end) spots)
        (clean_left (UnknownClass program) (mentions_in_stmt s) (mentions_in c) made))
        (condition sc ns h x (all_left NoFaultAt (expr_spots sc c) end more)
        (clean_right (UnknownClass program) (mentions_in_stmt s) (mentions_in c) made)
        (all_right NoFaultAt (expr_spots sc c) end more).0.types)
    states {sc} {ns} (is.switch {p = p} {end = end} {e = e} {e' = e'} {n = n} {enum = enum} {gs = gs} {gs' = gs'} x en gives g) h spots
        made =
        let behind_e : List Spot = AtStatement sc (Source.Switch p e gs end) ∷ group_spots (within Switch sc) gs in
        let more = all_right NoFaultAt (expr_spots sc e) behind_e spots in
        let value = enumerated core m sc ns (resolved sc ns h) apart h.runs h.locals (expr_is sc ns h x)
        (all_left NoFaultAt (expr_spots sc e) behind_e spots)
        (made_is sc ns h e (clean_left (UnknownClass program) (mentions_in e) (mentions_in_groups gs) made)) more.0.types in
        let same : value.0 ≡ n = enum_is
        (some_is (sym (enum_given core m ns.slots number numbered e' value.0 value.1) ∙ gives number numbered)) in
        let met = aligned_at res.enums n enum en.at in
        fine.switch (subst (λ k. Has core m ns.slots e' (types.Enum k)) same value.1)
        (are_cases program core m enum n met.item met.at met.is sc p e gs gs' g more.0.labels)
        (groups_state g (in_the_switch h) more.1 (clean_right (UnknownClass program) (mentions_in e) (mentions_in_groups gs) made))
    states (is.break b) h spots made = fine.break (may_break b)
    states (is.continue c) h spots made = fine.continue (may_continue c)
    states {sc} {ns} (is.return {p = p} {e = e} {e' = e'} v) h spots made = fine.return (may_return sc ns h p e e' v spots made)
    states {sc} {ns} (is.print {p = p} {e = e} x) h spots made =
        let end : List Spot = AtStatement sc (Source.Print p e) ∷ [] in
        let s = shown core m sc ns (resolved sc ns h) apart h.runs h.locals (expr_is sc ns h x)
        (all_left NoFaultAt (expr_spots sc e) end spots)
        (made_is sc ns h e made) (all_right NoFaultAt (expr_spots sc e) end spots).0.types in
        fine.print s.2 s.1
    states {sc} {ns} (is.eval {p = p} {e = e} x) h spots made =
        fine.eval (evaluated core m sc ns (resolved sc ns h) apart h.runs h.locals (expr_is sc ns h x) spots (made_is sc ns h e made)).1

    pub all_state : {sc : Scope} {ns : Numbers} {z : Source.Stmts} {z' : Core.Stmts} → IsStmts program core m sc ns z z' → Here sc ns →
        AreClean (stmts_spots sc z) → Clean (UnknownClass program) (mentions_in_stmts z) → FineAll core m ns.slots (map target ns.loops) z'
    all_state is.no_stmt h spots made = fine.no_stmt
    all_state {sc} {ns} (is.declaration {p = p} {ty = ty} {x = x} {k = k} {e = e} {rest = rest} ex slot more) h spots made =
        let first : List Spot = stmt_spots sc (Source.Local p ty x e) in
        let others : List Spot = stmts_spots (declare x ty sc) rest in
        let made_more = clean_right (UnknownClass program) (mentions_in_stmt (Source.Local p ty x e)) (mentions_in_stmts rest) made in
        let made_first = clean_left (UnknownClass program) (mentions_in_stmt (Source.Local p ty x e)) (mentions_in_stmts rest) made in
        fine.declare (declares sc ns h p ex slot (all_left NoFaultAt first others spots) made_first.1)
        (all_state more (with_local k x ty h slot) (all_right NoFaultAt first others spots) made_more)
    all_state {sc} {ns} (is.then {s = s} {rest = rest} n x more) h spots made =
        fine.then
        (states x h (all_left NoFaultAt (stmt_spots sc s) (stmts_spots (behind s sc) rest) spots)
        (clean_left (UnknownClass program) (mentions_in_stmt s) (mentions_in_stmts rest) made))
        (all_state more h
        (subst (λ sc. AreClean (stmts_spots sc rest)) (stays s sc n) (all_right NoFaultAt (stmt_spots sc s) (stmts_spots (behind s sc) rest)
        spots))
        (clean_right (UnknownClass program) (mentions_in_stmt s) (mentions_in_stmts rest) made))

    pub groups_state : {enum : Source.Enum} {sc : Scope} {ns : Numbers} {gs : Source.Groups} {gs' : Core.Groups} →
        IsGroups program core m enum sc ns gs gs' → Here sc ns → AreClean (group_spots sc gs) →
        Clean (UnknownClass program) (mentions_in_groups gs) → FineGroups core m ns.slots (map target ns.loops) gs'
    groups_state is.no_group h spots made = fine.no_group
    groups_state {sc = sc} (is.group {body = body} {gs = gs} labels x more) h spots made =
        fine.group
        (all_state x h (all_left NoFaultAt (stmts_spots sc body) (group_spots sc gs) spots)
        (clean_left (UnknownClass program) (mentions_in_stmts body) (mentions_in_groups gs) made))
        (groups_state more h (all_right NoFaultAt (stmts_spots sc body) (group_spots sc gs) spots)
        (clean_right (UnknownClass program) (mentions_in_stmts body) (mentions_in_groups gs) made))

-- What is resolved of clean statements of a method is well typed, in each scope of the method.
pub are_stated : (core : Core.Program) (m : Core.Method) (number : ℕ) → slice_get core.methods number ≡ Some m →
    (sc : Scope) (ns : Numbers) (b : Source.Stmts) (b' : Core.Stmts) → Resolves sc.program core → AreDistinct (type_names core) →
    Runs core m sc.program sc.class sc.method → AreLocals sc.program core m sc.locals ns.slots → IsType sc.program core sc.method.result
    m.result →
    IsStmts sc.program core m sc ns b b' → AllByRecursion NoFaultAt (stmts_spots sc b) →
    Clean (UnknownClass sc.program) (mentions_in_stmts b) →
    FineAll core m ns.slots (map target ns.loops) b'
are_stated core m number at sc ns b b' res apart runs locals result body spots made =
    all_state sc.program core res apart m number at body (record { same = refl; runs = runs; locals = locals; result = result }) spots made
