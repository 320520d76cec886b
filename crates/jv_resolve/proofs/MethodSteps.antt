-- What methods are resolved to, from what their parts are.
use Rattle.std.proofs.Common.{◌≡◌, ℕ, List, [], ◌∷◌, ◌++◌, length, Bool, false, Option, Some, None, refl, sym, ap, ◌∙◌, append_assoc}
use Rattle.std.proofs.Common.{append-nil}
use Rattle.std.specs.Prelude.{slice_get}
use Rattle.std.specs.List.{list_any}
use Rattle.std.specs.Str.{bytes_eq}
use Rattle.mg_text.specs.Call.{Name}
use Rattle.ts_tree.specs.Typestate.{Typestate}
use Rattle.jv_tree.specs.declared.tree.Param.{Param}
use Rattle.jv_tree.specs.Source
use Rattle.jv_rules.specs.Program.{offers_in}
use Rattle.jv_core.specs.Tree as Core
use Rattle.jv_core.specs.View.{stmts_of}
use Rattle.jv_core.specs.declared.program.CoreType.{CoreType}
use Rattle.jv_core.specs.declared.program.MethodKind.{MethodKind}
use Rattle.jv_resolve_law.specs.Tables.{◌>>=◌, Tables, Entry, Interned, interned, type_meant, is_offered, kind_meant}
use Rattle.jv_resolve_law.specs.Expressions.{Known, Standing}
use Rattle.jv_resolve_law.specs.Statements.{Counted, Counting, declared, slot_more, stmts}
use Rattle.jv_resolve_law.specs.Members.{Naming, Opened, params, method, methods_of, methods}
use Rattle.jv_resolve.specs.declared.given.Unresolved.{Unresolved}
use Rattle.jv_resolve.specs.inner.Gives.{Fails}
use Rattle.jv_resolve.specs.inner.Interning.{with_number}
use Rattle.jv_resolve.specs.inner.Naming.{naming, threaded, with_done, opened, param_at, unnumbered}
use Rattle.jv_resolve.specs.inner.Signatures.{Signed, signed, signature_meant, body_meant}
use Rattle.jv_resolve.proofs.Chains.{fails_then, fails_as, two_steps, kept_steps}
use Rattle.jv_resolve.proofs.Threads.{same_threaded}

-- ---- what a typestate offers

abbrev offers_in_any : Option Typestate → Name → Bool
offers_in_any o name = elim o [ None ↦ false | Some t ↦ list_any (λ m. bytes_eq m.name name) (offers_in t.states) ]

module _ (tables : Tables) (e : Entry) (name : Name) where
  pub none_followed : e.typestate ≡ None → false ≡ is_offered tables e name
  none_followed h = sym (ap (λ o. offers_in_any (o >>= slice_get tables.typestates) name) h)

  module _ (n : ℕ) (named : e.typestate ≡ Some n) where
    pub none_there : slice_get tables.typestates n ≡ None → false ≡ is_offered tables e name
    none_there h = sym (ap (λ o. offers_in_any (o >>= slice_get tables.typestates) name) named ∙ ap (λ o. offers_in_any o name) h)

    pub one_followed : (t : Typestate) (b : Bool) → slice_get tables.typestates n ≡ Some t → b ≡ list_any (λ m. bytes_eq m.name name)
        (offers_in t.states) → b ≡ is_offered tables e name
    one_followed t b h is = is ∙ sym (ap (λ o. offers_in_any (o >>= slice_get tables.typestates) name) named ∙
        ap (λ o. offers_in_any o name) h)

-- ---- parameters

module _ (tables : Tables) (p : Param) (locals : List Known) (s : Counted) where
  abbrev in_scope : Counting Known → Option Opened
  in_scope k = declared k.it locals >>= λ more. Some (opened more k.so_far)

  pub param_made : (k : Counting Known) (more : List Known) → slot_more tables p.ty p.name s ≡ Some k → declared k.it locals ≡ Some more →
      param_at tables p locals s ≡ Some (opened more k.so_far)
  param_made k more h new = ap (λ o. o >>= in_scope) h ∙ ap (λ o. o >>= λ ls. Some (opened ls k.so_far)) new

  pub param_slot_fails : (err : Unresolved) → Fails err (slot_more tables p.ty p.name s) → Fails err (param_at tables p locals s)
  param_slot_fails err h = fails_then err (slot_more tables p.ty p.name s) in_scope h

  pub param_scope_fails : (err : Unresolved) (k : Counting Known) → slot_more tables p.ty p.name s ≡ Some k →
      Fails err (declared k.it locals) → Fails err (param_at tables p locals s)
  param_scope_fails err k h new = fails_as err _ _ (ap (λ o. o >>= in_scope) h)
      (fails_then err (declared k.it locals) (λ ls. Some (opened ls k.so_far)) new)

regrouped : (a : Option (Counting Known)) (d : Counting Known → Option (List Known)) (F : List Known → Counted → Option Opened) →
    (a >>= λ k. d k >>= λ more. F more k.so_far) ≡ ((a >>= λ k. d k >>= λ more. Some (opened more k.so_far)) >>= λ o. F o.locals o.so_far)
regrouped None d F = refl
regrouped (Some k) d F = go (d k)
  where
    go : (o : Option (List Known)) → (o >>= λ more. F more k.so_far) ≡ ((o >>= λ more. Some (opened more k.so_far)) >>= λ r. F r.locals
        r.so_far)
    go None = refl
    go (Some more) = refl

module _ (tables : Tables) (total : Option Opened) (left : List Param) (locals : List Known) (s : Counted)
    (so_far : total ≡ params tables left locals s) where
  module _ (p : Param) (rest : List Param) (next : left ≡ p ∷ rest) where
    abbrev then_rest : Opened → Option Opened
    then_rest o = params tables rest o.locals o.so_far

    params_opened : total ≡ (param_at tables p locals s >>= then_rest)
    params_opened =
        so_far ∙ ap (λ ps. params tables ps locals s) next
        ∙ regrouped (slot_more tables p.ty p.name s) (λ k. declared k.it locals) (λ ls t. params tables rest ls t)

    pub params_more : (o : Opened) → param_at tables p locals s ≡ Some o → total ≡ params tables rest o.locals o.so_far
    params_more o h = params_opened ∙ ap (λ q. q >>= then_rest) h

    pub params_fail : (err : Unresolved) → Fails err (param_at tables p locals s) → Fails err total
    params_fail err h = fails_as err _ _ params_opened (fails_then err (param_at tables p locals s) then_rest h)

  pub params_done : left ≡ [] → total ≡ Some (opened locals s)
  params_done end = so_far ∙ ap (λ ps. params tables ps locals s) end

-- ---- methods

abbrev pub standing : Entry → Source.Method → Standing
standing e m = record { entry = e; is_static = m.is_static }

abbrev pub core_method : Entry → Source.Method → Signed → ℕ → MethodKind → Counting (List Core.Stmt) → Core.Method
core_method e m g count kind b = record {
  place = m.place;
  end = m.end;
  class = e.number;
  name = g.name;
  kind = kind;
  result = g.result;
  params = count;
  slots = b.so_far.slots;
  loops = b.so_far.loops;
  body = stmts_of b.it;
}

module _ (tables : Tables) (names : List Name) (m : Source.Method) (n : ℕ) (ns : List Name)
    (named : interned names m.name ≡ Some (with_number n ns)) where
  abbrev then_signed : ℕ → List Name → CoreType → Option (Naming Signed)
  then_signed k xs ty = Some (naming (signed k ty) xs)

  signature_named : signature_meant tables names m ≡ (type_meant tables m.result >>= then_signed n ns)
  signature_named = ap (λ o. o >>= λ k. type_meant tables m.result >>= then_signed k.number k.names) named

  pub signature_fails : (err : Unresolved) → Fails err (type_meant tables m.result) → Fails err (signature_meant tables names m)
  signature_fails err h = fails_as err _ _ signature_named (fails_then err (type_meant tables m.result) (then_signed n ns) h)

  pub signature_made : (ty : CoreType) → type_meant tables m.result ≡ Some ty → signature_meant tables names m ≡ Some
      (naming (signed n ty) ns)
  signature_made ty h = signature_named ∙ ap (λ o. o >>= then_signed n ns) h

module _ (tables : Tables) (names : List Name) (e : Entry) (m : Source.Method) where
  abbrev then_done : Signed → Counting (List Core.Stmt) → Option (Naming Core.Method)
  then_done g b = Some (naming (core_method e m g (length m.params) (kind_meant tables e m) b) b.so_far.names)

  abbrev then_body : Naming Signed → Option (Naming Core.Method)
  then_body g = body_meant tables (standing e m) m [] (unnumbered g.names) >>= then_done g.it

  method_opened : method tables names e m ≡ (signature_meant tables names m >>= then_body)
  method_opened =
      kept_steps (interned names m.name) (type_meant tables m.result) (λ (k : Interned) (ty : CoreType). naming (signed k.number ty)
      k.names) then_body
      (λ (k : Interned) (ty : CoreType). params tables m.params [] (unnumbered k.names) >>= λ o. stmts tables (standing e m) m.body []
      o.locals o.so_far >>= then_done (signed k.number ty))
      (λ (k : Interned) (ty : CoreType). two_steps (params tables m.params [] (unnumbered k.names))
      (λ (o : Opened). stmts tables (standing e m) m.body [] o.locals o.so_far) (then_done (signed k.number ty)))

  pub method_signature_fails : (err : Unresolved) → Fails err (signature_meant tables names m) → Fails err (method tables names e m)
  method_signature_fails err h = fails_as err _ _ method_opened (fails_then err (signature_meant tables names m) then_body h)

  module _ (g : Naming Signed) (known : signature_meant tables names m ≡ Some g) (locals : List Known) (s : Counted)
      (no_local : locals ≡ []) (unnumbered_yet : s ≡ unnumbered g.names) where
    method_signed : method tables names e m ≡ (body_meant tables (standing e m) m locals s >>= then_done g.it)
    method_signed =
        method_opened ∙ ap (λ o. o >>= then_body) known
        ∙ ap (λ ls. body_meant tables (standing e m) m ls (unnumbered g.names) >>= then_done g.it) (sym no_local)
        ∙ ap (λ t. body_meant tables (standing e m) m locals t >>= then_done g.it) (sym unnumbered_yet)

    pub method_body_fails : (err : Unresolved) → Fails err (body_meant tables (standing e m) m locals s) →
        Fails err (method tables names e m)
    method_body_fails err h = fails_as err _ _ method_signed (fails_then err (body_meant tables (standing e m) m locals s) (then_done g.it)
        h)

    pub method_made : (b : Counting (List Core.Stmt)) (count : ℕ) (kind : MethodKind) → body_meant tables (standing e m) m locals s ≡ Some b
        → count ≡ length m.params → kind ≡ kind_meant tables e m →
        method tables names e m ≡ Some (naming (core_method e m g.it count kind b) b.so_far.names)
    method_made b count kind h counted is =
        method_signed ∙ ap (λ o. o >>= then_done g.it) h
        ∙ ap (λ k. Some (naming (core_method e m g.it k (kind_meant tables e m) b) b.so_far.names)) (sym counted)
        ∙ ap (λ k. Some (naming (core_method e m g.it count k b) b.so_far.names)) (sym is)

pub same_methods_of : (tables : Tables) (e : Entry) (names : List Name) (ms : List Source.Method) → methods_of tables names e ms ≡ threaded
    (λ ns m. method tables ns e m) names ms
same_methods_of tables e = same_threaded (λ ns m. method tables ns e m) (λ ns ms. methods_of tables ns e ms) (λ ns. refl) (λ ns m ms. refl)

-- ---- the methods of classes

last : (after : List Core.Method) (o : Option (Naming (List Core.Method))) → (o >>= λ r. Some (naming (after ++ r.it) r.names)) ≡ with_done
    after o
last after None = refl
last after (Some r) = refl

pub classes_start : (o : Option (Naming (List Core.Method))) → o ≡ with_done [] o
classes_start None = refl
classes_start (Some r) = refl

module _ (tables : Tables) (total : Option (Naming (List Core.Method))) (done : List Core.Method) (names : List Name) (left : List Entry)
    (so_far : total ≡ with_done done (methods tables names left)) where
  module _ (e : Entry) (rest : List Entry) (next : left ≡ e ∷ rest) where
    abbrev then_classes : Naming (List Core.Method) → Option (Naming (List Core.Method))
    then_classes k = methods tables k.names rest >>= λ r. Some (naming (k.it ++ r.it) r.names)

    grouped : (o : Option (Naming (List Core.Method))) → with_done done (o >>= then_classes) ≡ (with_done done o >>= then_classes)
    grouped None = refl
    grouped (Some k) = go (methods tables k.names rest)
      where
        go : (q : Option (Naming (List Core.Method))) → with_done done (q >>= λ r. Some (naming (k.it ++ r.it) r.names)) ≡
            (q >>= λ r. Some (naming ((done ++ k.it) ++ r.it) r.names))
        go None = refl
        go (Some r) = ap (λ xs. Some (naming xs r.names)) (sym (append_assoc done k.it r.it))

    classes_opened : total ≡ (with_done done (methods_of tables names e e.class.methods) >>= then_classes)
    classes_opened = so_far ∙ ap (λ es. with_done done (methods tables names es)) next ∙ grouped (methods_of tables names e e.class.methods)

    pub classes_more : (after : List Core.Method) (later : List Name) → with_done done (methods_of tables names e e.class.methods) ≡ Some
        (naming after later) → total ≡ with_done after (methods tables later rest)
    classes_more after later h = classes_opened ∙ ap (λ o. o >>= then_classes) h ∙ last after (methods tables later rest)

    pub classes_fail : (err : Unresolved) → Fails err (with_done done (methods_of tables names e e.class.methods)) → Fails err total
    classes_fail err h = fails_as err _ _ classes_opened (fails_then err (with_done done (methods_of tables names e e.class.methods))
        then_classes h)

  pub classes_done : left ≡ [] → total ≡ Some (naming done names)
  classes_done end = so_far ∙ ap (λ es. with_done done (methods tables names es)) end ∙ ap (λ xs. Some (naming xs names)) (append-nil done)
