-- What the names in a method stand for, with their types: variables, and methods that are called.
use Rattle.std.proofs.Common.{◌≡◌, ℕ, zero, suc, Bool, true, false, cond, true≢false, List, [], ◌∷◌, length, map, take, drop, Option, Some}
use Rattle.std.proofs.Common.{None, option_map, option_and_then, slice_get, refl, sym, ap, ◌∙◌, subst}
use Rattle.std.specs.Prelude.{find, if◌then◌else◌}
use Rattle.std.specs.Str.{bytes_eq}
use Rattle.std.proofs.lemmas.Slice.Eq.{bytes_eq-Decides}
use Rattle.mg_text.specs.Call.{Name}
use Rattle.jv_tree.specs.declared.tree.Param.{Param}
use Rattle.jv_tree.specs.Source
use Rattle.jv_meaning.specs.Program.{classes_of, class_named}
use Rattle.jv_rules.specs.Program.{Program, is_of_protocol}
use Rattle.jv_rules.specs.Types.{ValueType, meant}
use Rattle.jv_rules.specs.Scope.{Scope, Declared, own_field, field_type, field_of}
use Rattle.jv_rules.specs.Typing.{type_of}
use Rattle.jv_core.specs.declared.tree.Var.{Var}
use Rattle.jv_core.specs.declared.tree.Var.TheVariants as vars
use Rattle.jv_core.specs.declared.program.CoreType.{CoreType}
use Rattle.jv_core.specs.declared.program.MethodKind.{MethodKind}
use Rattle.jv_core.specs.declared.program.MethodKind.TheVariants as kinds
use Rattle.jv_core.specs.Tree as Core
use Rattle.jv_core.specs.Lookup.{param_types, IsInstance}
use Rattle.jv_core.specs.Types.{IsVariable, IsField}
use Rattle.jv_names.specs.Resolves.{Aligned, Numbers, HasSlot, Owned, IsVar, IsOwnField, IsClass, IsMethod, IsType, AreParams, ClassIs}
use Rattle.jv_names.specs.Resolves.{MethodIs, kind_of, methods_of, Resolves}
use Rattle.jv_names.specs.Resolves as is
use Rattle.jv_names.proofs.Tables.{some_is, none_some, aligned_at, method_is, owner_at}
use Rattle.jv_names.proofs.Fitting.{IsKnown, meant_known}
use Rattle.jv_names.proofs.Locals.{IsLocal, AreLocals}
use Rattle.jv_names.proofs.Scopes.{slot_in}
use Rattle.jv_names.proofs.TypesMeet.{Meets, meant_meets, local_meets}

-- the method of a core stands for this one, of this class
pub record Runs (core : Core.Program) (m : Core.Method) (program : Program) (class : Source.Class) (method : Source.Method) : Type 0 where
  pub core_class : Core.Class
  pub at : slice_get core.classes m.class ≡ Some core_class
  pub is : ClassIs program core class core_class
  pub source_at : slice_get (classes_of program.files) m.class ≡ Some class
  pub named : class_named program.files class.name ≡ Some class
  pub kind : m.kind ≡ kind_of program core class method

-- Kinds of methods.

abbrev pub kind_by : (is_static takes_args protocol : Bool) → MethodKind
kind_by is_static takes_args protocol = elim is_static [
  | true ↦ elim takes_args [ true ↦ kinds.Main | false ↦ kinds.Static ]
  | false ↦ elim protocol [ true ↦ kinds.Protocol | false ↦ kinds.Helper ]
]

pub instance_kind : (s a p : Bool) → s ≡ false → IsInstance (kind_by s a p)
instance_kind true a p e = absurd (true≢false e)
instance_kind false a true e = tt
instance_kind false a false e = tt

pub static_kind : (s a p : Bool) → s ≡ true → a ≡ false → kind_by s a p ≡ kinds.Static
static_kind true true p e f = absurd (true≢false f)
static_kind true false p e f = refl
static_kind false a p e f = absurd (true≢false (sym e))

pub protocol_kind : (s a p : Bool) → s ≡ false → p ≡ true → kind_by s a p ≡ kinds.Protocol
protocol_kind true a p e f = absurd (true≢false e)
protocol_kind false a true e f = refl
protocol_kind false a false e f = absurd (true≢false (sym f))

pub helper_kind : (s a p : Bool) → s ≡ false → p ≡ false → kind_by s a p ≡ kinds.Helper
helper_kind true a p e f = absurd (true≢false e)
helper_kind false a true e f = absurd (true≢false f)
helper_kind false a false e f = refl

pub runs_on_object : (core : Core.Program) (m : Core.Method) (program : Program) (class : Source.Class) (method : Source.Method) →
    Runs core m program class method → method.is_static ≡ false → IsInstance m.kind
runs_on_object core m program class method r e =
    subst IsInstance (sym r.kind) (instance_kind method.is_static method.takes_args (is_of_protocol program class method.name) e)

-- Locals.

-- the local of a name, and its slot
pub record TheLocal (program : Program) (core : Core.Program) (m : Core.Method) (x : Name) (ds : List Declared) (k : ℕ) : Type 0 where
  pub declared : Declared
  pub found : find (λ d. bytes_eq d.name x) ds ≡ Some declared
  pub is : IsLocal program core m declared k

pub the_local : (program : Program) (core : Core.Program) (m : Core.Method) (x : Name) (ds : List Declared) (ks : List ℕ) (k : ℕ) →
    AreLocals program core m ds ks → HasSlot x ds ks k → TheLocal program core m x ds k
the_local program core m x _ _ k is.none h = elim h [ ]
the_local program core m x _ _ k (is.more {a = d} {as' = ds} i rest) (is.here e) = record {
  declared = d;
  found = ap (λ t. cond t (Some d) (find (λ d. bytes_eq d.name x) ds)) ((bytes_eq-Decides d.name x).1 e);
  is = i;
}
the_local program core m x _ _ k (is.more {a = d} {as' = ds} {bs = ks} i rest) (is.there n j h) =
    let l = the_local program core m x ds ks k rest h in
    record { declared = l.declared; found = go (bytes_eq d.name x) (bytes_eq-Decides d.name x).0 ∙ l.found; is = l.is }
  where
    go : (b : Bool) → (b ≡ true → d.name ≡ x) →
        cond b (Some d) (find (λ d. bytes_eq d.name x) ds) ≡ find (λ d. bytes_eq d.name x) ds
    go true same = absurd (n (same refl))
    go false same = refl

-- a visible field, in code that runs on an object
visible_instance : (is_static : Bool) (o : Option Source.Field) (f : Source.Field) → (if is_static then None else o) ≡ Some f →
    is_static ≡ false
visible_instance true o f e = absurd (none_some e)
visible_instance false o f e = refl

abbrev typed_or : Option Declared → Option ValueType → Option ValueType
typed_or o p = elim o [ None ↦ p | Some d ↦ Some d.type ]

module _ (core : Core.Program) (m : Core.Method) (scope : Scope) (ns : Numbers)
    (runs : Runs core m scope.program scope.class scope.method) (locals : AreLocals scope.program core m scope.locals ns.slots) where
  -- a variable has a type, and its slot or field has one that meets it
  pub record TypedVar (x : Var) (t : ValueType) : Type 0 where
    pub type : CoreType
    pub meets : Meets scope.program core t type
    pub is : IsVariable core m ns.slots x type
    pub known : IsKnown t

  as_type : (x : Var) (t u : ValueType) → TypedVar x t → t ≡ u → TypedVar x u
  as_type x t u h e = subst (TypedVar x) e h

  of_field : (x : Name) (k : ℕ) (own : IsOwnField scope.program core scope x k) → TypedVar (vars.Field k) (meant scope.program own.field.ty)
  of_field x k own =
      let met = aligned_at runs.is.fields k own.field own.at in
      record {
        type = met.item.ty;
        meets = meant_meets scope.program core own.field.ty met.item.ty met.is.type;
        is = record {
          visible =
              runs_on_object core m scope.program scope.class scope.method runs
              (visible_instance scope.method.is_static _ own.field own.visible);
          type =
              ap (option_and_then (λ (k' : Core.Class). option_map (λ (d : Core.Field). d.ty) (slice_get k'.fields k))) runs.at
              ∙ ap (option_map (λ (d : Core.Field). d.ty)) met.at;
        };
        known = meant_known scope.program own.field.ty;
      }

  field_typed : (x : Name) (k : ℕ) (own : IsOwnField scope.program core scope x k) →
      field_type scope x ≡ Some (meant scope.program own.field.ty)
  field_typed x k own = ap (option_map (λ (f : Source.Field). meant scope.program f.ty)) own.visible

  -- a variable of the source, and the one of the core
  pub typed_var : {e : Source.Expr} {x : Var} → IsVar scope.program core scope ns e x → (t : ValueType) → type_of scope e ≡ Some t →
      TypedVar x t
  typed_var (is.a_local {x = x} {k = k} s) t e =
      let l = the_local scope.program core m x scope.locals ns.slots k locals s in
      let w = local_meets scope.program core m l.declared k l.is in
      as_type (vars.Slot k) l.declared.type t (record {
        type = w.type;
        meets = w.meets;
        is = record { visible = slot_in s; type = w.at };
        known = subst IsKnown (sym l.is.type) (meant_known scope.program l.is.ty);
      }) (some_is (sym (ap (λ o. typed_or o (field_type scope x)) l.found) ∙ e))
  typed_var (is.a_field {x = x} {k = k} none own) t e =
      as_type (vars.Field k) (meant scope.program own.field.ty) t (of_field x k own)
      (some_is (sym (ap (λ o. typed_or o (field_type scope x)) none ∙ field_typed x k own) ∙ e))
  typed_var (is.own {x = x} {k = k} own) t e =
      as_type (vars.Field k) (meant scope.program own.field.ty) t (of_field x k own) (some_is (sym (field_typed x k own) ∙ e))

  -- a field of the core is an own field of the source
  pub own_of : {e : Source.Expr} {x : Var} → IsVar scope.program core scope ns e x → IsField x →
      (f : Source.Field) × (field_of scope e ≡ Some f)
  own_of (is.a_local s) h = absurd h
  own_of (is.a_field {x = x} none own) h =
      (own.field, ap (λ (o : Option Declared). elim o [ None ↦ own_field scope x | Some d ↦ None ]) none ∙ own.visible)
  own_of (is.own own) h = (own.field, own.visible)

-- Methods.

pub from_here : {A : Type 0} (xs : List A) (n : ℕ) (x : A) → slice_get xs n ≡ Some x → drop n xs ≡ x ∷ drop (suc n) xs
from_here [] n x e = absurd (none_some e)
from_here (y ∷ xs) zero x e = ap (λ z. z ∷ xs) (some_is e)
from_here (y ∷ xs) (suc n) x e = from_here xs n x e

params_from : (program : Program) (core : Core.Program) (k : Core.Method) (n : ℕ) (ps : List Param) → AreParams program core k n ps →
    Aligned (Meets program core) (map (λ p. meant program p.ty) ps) (map (λ s. s.ty) (take (length ps) (drop n k.slots)))
params_from program core k n _ is.no_param = is.none
params_from program core k n _ (is.param {p = p} {ps = ps} i more) =
    subst (λ xs. Aligned (Meets program core) (map (λ p. meant program p.ty) (p ∷ ps))
    (map (λ (s : Core.Slot). s.ty) (take (suc (length ps)) xs)))
    (sym (from_here k.slots n i.slot i.at))
    (is.more (meant_meets program core p.ty i.slot.ty i.type) (params_from program core k (suc n) ps more))

pub params_meet : (program : Program) (core : Core.Program) (o : Owned) (k : Core.Method) → MethodIs program core o k →
    Aligned (Meets program core) (map (λ p. meant program p.ty) o.method.params) (param_types k)
params_meet program core o k m =
    subst (λ n. Aligned (Meets program core) (map (λ p. meant program p.ty) o.method.params)
    (map (λ (s : Core.Slot). s.ty) (take n k.slots)))
    (sym m.count) (params_from program core k 0 o.method.params m.params)

-- a method that a call names
pub record Callee (program : Program) (core : Core.Program) (class f : Name) (n : ℕ) (method : Source.Method) (owner : Source.Class) : Type
    0 where
  pub method_is : Core.Method
  pub at : slice_get core.methods n ≡ Some method_is
  pub class_is : IsClass program core class method_is.class
  pub kind : method_is.kind ≡ kind_of program core owner method
  pub params : Aligned (Meets program core) (map (λ p. meant program p.ty) method.params) (param_types method_is)
  pub result : Meets program core (meant program method.result) method_is.result

pub callee : (program : Program) (core : Core.Program) → Resolves program core → (class f : Name) (n : ℕ) (method : Source.Method) →
    (i : IsMethod program core class f n method) → Callee program core class f n method i.owner.class
callee program core res class f n method i =
    let w = method_is program core res class f n method i in
    let met = aligned_at res.methods n (record { owner = i.owner; method = method }) i.at in
    record {
      method_is = met.item;
      at = met.at;
      class_is = record {
        class = i.owner.class;
        named = i.owner_named;
        at = ap (slice_get (classes_of program.files)) met.is.class ∙ owner_at program.files n (record { owner = i.owner; method = method })
            i.at;
      };
      kind = met.is.kind;
      params = params_meet program core (record { owner = i.owner; method = method }) met.item met.is;
      result = meant_meets program core method.result met.item.result met.is.result;
    }
