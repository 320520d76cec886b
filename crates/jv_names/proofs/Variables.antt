-- Variables: the core reads and writes what the source does.
use Rattle.std.proofs.Common.{◌≡◌, ℕ, Bool, true, false, Option, Some, None, option_map, option_and_then, slice_get, refl, sym, ap, ◌∙◌}
use Rattle.std.proofs.Common.{subst}
use Rattle.std.specs.Prelude.{nat_eq, if◌then◌else◌, ◌&&◌, is_some}
use Rattle.std.specs.Str.{bytes_eq}
use Rattle.std.proofs.lemmas.Slice.Eq.{bytes_eq-Decides}
use Rattle.mg_text.specs.Call.{Name}
use Rattle.jv_tree.specs.Source
use Rattle.jv_values.specs.Values.{Value, Row, Shared, Lives, Here, Inputs, Wrong, put}
use Rattle.jv_values.specs.Values as values
use Rattle.jv_values.specs.Doing.{Run, ◌>>=◌, give, stop, found, valued, valuing, within}
use Rattle.jv_values.specs.Objects.{read_field, write_field}
use Rattle.jv_values.specs.Statements.{Completion, Does, assigned}
use Rattle.jv_values.specs.Alike.{Alike, Completes, SameEnd}
use Rattle.jv_values.proofs.Combine as combine
use Rattle.jv_values.proofs.Expressions as same
use Rattle.jv_meaning.specs.Program.{class_named, field_named}
use Rattle.jv_meaning.specs.Names.{ALocal, AField, NoVariable, local_or, has_field, referent}
use Rattle.jv_meaning.specs.Meaning as meant
use Rattle.jv_rules.specs.Program.{Program}
use Rattle.jv_rules.specs.Scope.{Scope, Declared, local_named, own_field, field_type, variable_type}
use Rattle.jv_rules.specs.Types.{ValueType}
use Rattle.jv_core.specs.declared.tree.Var.{Var}
use Rattle.jv_core.specs.declared.tree.Var.TheVariants as vars
use Rattle.jv_core.specs.Tree as Core
use Rattle.jv_core.specs.Lookup.{text_at}
use Rattle.jv_core.specs.Meaning as core_meaning
use Rattle.jv_names.specs.Resolves.{Numbers, IsOwnField, IsVar, a_local, a_field, own, ClassIs, Resolves}
use Rattle.jv_names.proofs.Rows.{Beside, find_is, Puts, put_is, find_absent, put_absent}
use Rattle.jv_names.proofs.Tables.{found_passes, aligned_at, none_some, text_is}
use Rattle.jv_names.proofs.Alike.{like_give, like_closed, E, same_run, tells_e, unvalued, Living, Q, within_like}

abbrev pub on_core : ℕ → Option ℕ → Here ℕ
on_core c this = record { class = c; object = this }

abbrev pub on_source : Name → Option ℕ → Here Name
on_source name this = record { class = name; object = this }

-- where code runs: the class and the method in the source, the method and its number in the core, and the object
pub record Context (program : Program) (core : Core.Program) (class : Source.Class) (method : Source.Method) (core_method : Core.Method)
    (number c : ℕ) (this : Option ℕ) : Type 0 where
  pub at : slice_get core.methods number ≡ Some core_method
  pub core_class : Core.Class
  pub core_at : slice_get core.classes c ≡ Some core_class
  pub is : ClassIs program core class core_class
  pub named : class_named program.files class.name ≡ Some class
  pub runs : is_some this ≡ (if method.is_static then false else true)

-- Names that are variables, and names that aren't.

visible_field : (is_static has : Bool) (o : Option Source.Field) (f : Source.Field) → has ≡ (if is_static then false else true) →
    (if is_static then None else o) ≡ Some f → (has && is_some o) ≡ true
visible_field true has o f e w = absurd (none_some w)
visible_field false has o f e w = ap (λ t. t && is_some o) e ∙ ap is_some w

no_field : (is_static has : Bool) (o : Option Source.Field) → has ≡ (if is_static then false else true) →
    (if is_static then None else o) ≡ None → (has && is_some o) ≡ false
no_field true has o e w = ap (λ t. t && is_some o) e
no_field false has o e w = ap (λ t. t && is_some o) e ∙ ap is_some w

nothing_there : {A B : Type 0} (f : A → B) (o : Option A) → option_map f o ≡ None → o ≡ None
nothing_there f None e = refl
nothing_there f (Some a) e = absurd (none_some (sym e))

abbrev typed_or : Option Declared → Option ValueType → Option ValueType
typed_or o p = elim o [ None ↦ p | Some d ↦ Some d.type ]

neither : (o : Option Declared) (p : Option ValueType) → typed_or o p ≡ None → (o ≡ None) × (p ≡ None)
neither None p e = (refl, e)
neither (Some d) p e = absurd (none_some (sym e))

not_local : (scope : Scope) (x : Name) → variable_type scope x ≡ None → (local_named scope x ≡ None) × (own_field scope x ≡ None)
not_local scope x e =
    let q = neither (local_named scope x) (field_type scope x) e in
    (q.0, nothing_there _ (own_field scope x) q.1)

module _ (program : Program) (core : Core.Program) (res : Resolves program core) (inputs : Inputs) (core_method : Core.Method)
    (number c : ℕ) (this : Option ℕ) (scope : Scope) (ns : Numbers)
    (context : Context program core scope.class scope.method core_method number c this) where
  abbrev source : Here Name
  source = on_source scope.class.name this

  field_found : (x : Name) → has_field program.files source x ≡ (is_some this && is_some (field_named scope.class x))
  field_found x = ap (λ o. is_some this && is_some (option_and_then (λ c. field_named c x) o)) context.named

  pub refers_to_local : (r' : Row Name) (x : Name) (v : Value) → values.find bytes_eq x r' ≡ Some v →
      referent program.files source r' x ≡ ALocal v
  refers_to_local r' x v e = ap (λ o. local_or o (has_field program.files source x)) e

  pub refers_to_field : {r : Row ℕ} (r' : Row Name) (x : Name) (f : Source.Field) → Beside scope.locals ns.slots r r' →
      local_named scope x ≡ None → own_field scope x ≡ Some f →
      referent program.files source r' x ≡ AField
  refers_to_field r' x f h away e =
      ap (λ o. local_or o (has_field program.files source x)) (find_absent x h away)
      ∙ ap (λ t. if t then AField else NoVariable) (field_found x ∙ visible_field scope.method.is_static (is_some this)
      (field_named scope.class x) f context.runs e)

  pub refers_to_none : {r : Row ℕ} (r' : Row Name) (x : Name) → Beside scope.locals ns.slots r r' → variable_type scope x ≡ None →
      referent program.files source r' x ≡ NoVariable
  refers_to_none r' x h e =
      let q = not_local scope x e in
      ap (λ o. local_or o (has_field program.files source x)) (find_absent x h q.0)
      ∙ ap (λ t. if t then AField else NoVariable) (field_found x ∙ no_field scope.method.is_static (is_some this)
      (field_named scope.class x) context.runs q.1)

  own_name : (x : Name) (f : Source.Field) → own_field scope x ≡ Some f → f.name ≡ x
  own_name x f e = go scope.method.is_static e
    where
      go : (t : Bool) → (if t then None else field_named scope.class x) ≡ Some f → f.name ≡ x
      go true e = absurd (none_some e)
      go false e = (bytes_eq-Decides f.name x).0 (found_passes _ scope.class.fields f e)

  -- an own field of the core has the class's name and the field's
  pub own_is : (k : ℕ) (x : Name) → IsOwnField program core scope x k → (low : core_meaning.Lower) {A : Type 0}
      (f : Name → Name → Run Shared A) →
      (core_meaning.own_field core inputs low number (on_core c this) k >>= λ names. f names.0 names.1) ≡ f scope.class.name x
  own_is k x is low f =
      let met = aligned_at context.is.fields k is.field is.at in
      ap (λ o. (found o >>= λ class. found (slice_get class.fields k) >>= paired class) >>= λ names. f names.0 names.1) context.core_at
      ∙ ap (λ o. (found o >>= paired context.core_class) >>= λ names. f names.0 names.1) met.at
      ∙ ap (λ n. f n (text_at core met.item.name)) (text_is program core res context.core_class.name scope.class.name context.is.name)
      ∙ ap (f scope.class.name) (text_is program core res met.item.name is.field.name met.is.name ∙ own_name x is.field is.visible)
    where
      paired : Core.Class → Core.Field → Run Shared (Name × Name)
      paired class d = give (text_at core class.name, text_at core d.name)

  -- what a variable is read as in the source
  abbrev raw : Row Name → Source.Expr → Run Shared Value
  raw r' (Source.Variable p x) = meant.read source x (referent program.files source r' x)
  raw r' (Source.Member p e f) = meant.member program.files source r' e f
  raw r' _ = stop Wrong

  module _ (low : core_meaning.Lower) where
    field_like : (k : ℕ) (x : Name) → IsOwnField program core scope x k → E Value Value ◌≡◌
        (core_meaning.own_field core inputs low number (on_core c this) k >>= λ names. read_field names.0 this names.1)
        (read_field scope.class.name this x)
    field_like k x is =
        subst (λ m. E Value Value ◌≡◌ m (read_field scope.class.name this x)) (sym (own_is k x is low (λ d y. read_field d this y)))
        (same_run (read_field scope.class.name this x))

    raw_like : {e : Source.Expr} {v : Var} {r : Row ℕ} {r' : Row Name} → IsVar program core scope ns e v →
        Beside scope.locals ns.slots r r' →
        E Value Value ◌≡◌ (core_meaning.read core inputs low number (on_core c this) r v) (raw r' e)
    raw_like {r = r} {r' = r'} (a_local {x = x} {k = k} w) h =
        let f = find_is x k h w in
        subst (λ o. E Value Value ◌≡◌ (found o) (meant.read source x (referent program.files source r' x))) (sym f.left)
        (subst (λ q. E Value Value ◌≡◌ (give f.value) (meant.read source x q)) (sym (refers_to_local r' x f.value f.right))
        (like_give ◌≡◌ refl))
    raw_like {r = r} {r' = r'} (a_field {x = x} {k = k} away is) h =
        subst (λ q. E Value Value ◌≡◌ (core_meaning.read core inputs low number (on_core c this) r (vars.Field k))
        (meant.read source x q))
        (sym (refers_to_field r' x is.field h away is.visible)) (field_like k x is)
    raw_like (own {x = x} {k = k} is) h = field_like k x is

    -- a variable, as it is evaluated
    pub variable_like : (high : meant.Lower) {e : Source.Expr} {v : Var} {r : Row ℕ} {r' : Row Name} → IsVar program core scope ns e v →
        Beside scope.locals ns.slots r r' →
        E (Option Value) (Option Value) ◌≡◌ (valuing (core_meaning.read core inputs low number (on_core c this) r v))
        (meant.eval program.files inputs high source r' e)
    variable_like high (a_local {p = p} w) h = same.valuing_same E tells_e (raw_like (a_local {p = p} w) h)
    variable_like high (a_field {p = p} away is) h = same.valuing_same E tells_e (raw_like (a_field {p = p} away is) h)
    variable_like high (own {p = p} {q = q} is) h = same.valuing_same E tells_e (raw_like (own {p = p} {q = q} is) h)

    -- and as a value
    pub read_like : (high : meant.Lower) {e : Source.Expr} {v : Var} {r : Row ℕ} {r' : Row Name} → IsVar program core scope ns e v →
        Beside scope.locals ns.slots r r' →
        E Value Value ◌≡◌ (core_meaning.read core inputs low number (on_core c this) r v)
        (valued (meant.eval program.files inputs high source r' e))
    read_like high (a_local {p = p} w) h = unvalued (raw_like (a_local {p = p} w) h)
    read_like high (a_field {p = p} away is) h = unvalued (raw_like (a_field {p = p} away is) h)
    read_like high (own {p = p} {q = q} is) h = unvalued (raw_like (own {p = p} {q = q} is) h)

  -- a variable has a value, and is no class
  pub target_is : {e : Source.Expr} {v : Var} {r : Row ℕ} {r' : Row Name} → IsVar program core scope ns e v →
      Beside scope.locals ns.slots r r' →
      meant.target_of program.files source r' e ≡ meant.OfValue
  target_is {r' = r'} (a_local {x = x} {k = k} w) h =
      let f = find_is x k h w in
      ap (meant.class_or x) (refers_to_local r' x f.value f.right)
  target_is {r' = r'} (a_field {x = x} away is) h = ap (meant.class_or x) (refers_to_field r' x is.field h away is.visible)
  target_is (own is) h = refl

  module _ (B C : Option ℕ → Option Name → Type 0) (low : core_meaning.Lower) where
    abbrev Writes : Does ℕ → Does Name → Type 0
    Writes = Q scope.locals ns.slots (Completion ℕ) (Completion Name) (Completes B C)

    own_write : (k : ℕ) (x : Name) (u : Value) → IsOwnField program core scope x k →
        Writes (core_meaning.write core inputs low number (on_core c this) (vars.Field k) u) (meant.write_own source x u)
    own_write k x u is =
        combine.bind_same (Q scope.locals ns.slots) (like_closed (Living scope.locals ns.slots))
        (within_like scope.locals ns.slots (λ r r' h.
        subst (λ m. E (Unit {0}) (Unit {0}) ◌≡◌ m (write_field scope.class.name this x u))
        (sym (own_is k x is low (λ d y. write_field d this y u)))
        (same_run (write_field scope.class.name this x u))))
        (λ done. like_give (Living scope.locals ns.slots) tt)

    pub write_like : {e : Source.Expr} {v : Var} → IsVar program core scope ns e v → (u : Value) →
        Writes (core_meaning.write core inputs low number (on_core c this) v u) (meant.write source e u)
    write_like (a_local {x = x} {k = k} w) u = record { by = λ s t st. go s t st (put_is x k u st.locals w) }
      where
        go : (s : Lives ℕ) (t : Lives Name) → Living scope.locals ns.slots s t → Puts scope.locals ns.slots (put nat_eq k u s.locals)
            (put bytes_eq x u t.locals) →
            Alike (Living scope.locals ns.slots) (Completes B C) SameEnd
            (assigned (put nat_eq k u s.locals) (within (λ locals. stop Wrong)) s)
            (assigned (put bytes_eq x u t.locals) (meant.write_own source x u) t)
        go s t st p =
            subst (λ o. Alike (Living scope.locals ns.slots) (Completes B C) SameEnd (assigned o (within (λ locals. stop Wrong)) s)
            (assigned (put bytes_eq x u t.locals) (meant.write_own source x u) t)) (sym p.left)
            (subst (λ q. Alike (Living scope.locals ns.slots) (Completes B C) SameEnd
            (assigned (Some p.row) (within (λ locals. stop Wrong)) s) (assigned q (meant.write_own source x u) t)) (sym p.right)
            (tt, record { locals = p.beside; shared = st.shared }))
    write_like (a_field {x = x} {k = k} away is) u = record {
      by = λ s t st.
          subst (λ q. Alike (Living scope.locals ns.slots) (Completes B C) SameEnd
          (core_meaning.write core inputs low number (on_core c this) (vars.Field k) u s) (assigned q (meant.write_own source x u) t))
          (sym (put_absent x u st.locals away)) ((own_write k x u is).by s t st);
    }
    write_like (own {x = x} {k = k} is) u = own_write k x u is
