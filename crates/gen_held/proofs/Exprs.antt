-- What an expression that a file has is resolved to can be held.
use Rattle.std.proofs.Common.{◌≡◌, ℕ, ◌<◌, ◌≤◌, ◌^◌, Bool, true, false, List, [], ◌∷◌, length, Option, Some, None, option_map, slice_get}
use Rattle.std.proofs.Common.{position, subst, arith}
use Rattle.std.specs.Prelude.{codes, if◌then◌else◌}
use Rattle.std.specs.List.{AllByRecursion}
use Rattle.std.specs.Str.{bytes_eq}
use Rattle.std.proofs.lemmas.List.Quantifiers.{position-Some}
use Rattle.mg_text.specs.Call.{Name}
use Rattle.mg_text.specs.declared.place.Place.{Place}
use Rattle.jv_tree.specs.declared.built_in.TextCall.{TextCall}
use Rattle.jv_tree.specs.declared.built_in.TextCall.TheVariants as texts
use Rattle.jv_tree.specs.BuiltIn.{session_named, text_named}
use Rattle.jv_tree.specs.Source
use Rattle.jv_meaning.specs.Program.{constant_position}
use Rattle.jv_core.specs.declared.tree.CoreVar.{CoreVar}
use Rattle.jv_core.specs.declared.program.CoreType.TheVariants as types
use Rattle.jv_core.specs.Tree as Core
use Rattle.jv_core.specs.Types.{text_result}
use Rattle.jv_core.specs.View.{exprs_of}
use Rattle.jv_names.proofs.Tables.{some_is, none_some}
use Rattle.jv_names.proofs.Slots.{all_holds}
use Rattle.jv_resolve_law.specs.Tables.{◌>>=◌, Tables, Callee, Numbered, class_called, enum_called, enum_names, method_called, type_meant}
use Rattle.jv_resolve_law.specs.Expressions.{Given, OfNull, Of, Resolved, Known, Standing, Found, Receiver, OnThis, OnClass, OnValue}
use Rattle.jv_resolve_law.specs.Expressions.{variable_in, only, typed, text_form, text_call, session_call}
use Rattle.jv_resolve_law.specs.Expressions.{constant, initial, static_call, helper_call, object_call, call_class, call_protocol}
use Rattle.jv_resolve_law.specs.Expressions.{call_typed, own_found, call_own, call_on, found, variable_at, constant_at, member}
use Rattle.jv_resolve_law.specs.Expressions.{named_receiver, receiver, resolved, resolved_all}
use Rattle.jv_resolve_law.proofs.Steps.{bound, mapped}
use Rattle.jv_back.proofs.Exprs.{IsWritten, AreWritten}
use Rattle.gen_links.specs.Held.{HoldsExpr, HoldsExprs}
use Rattle.gen_held.proofs.Words.{int_fits}

abbrev pub Holds : Resolved → Type 0
Holds r = HoldsExpr r.expr

abbrev pub AllHold : List Core.Expr → Type 0
AllHold args = HoldsExprs (exprs_of args)

-- no enum has too many constants
abbrev pub AreFew : List Source.Enum → Type 0
AreFew enums = AllByRecursion (λ (e : Source.Enum). length e.constants ≤ 2 ^ 31) enums

below : (i n m : ℕ) → i < n → n ≤ m → i < m
below i n m a b = omega (arith, a, b)

text_call_held : (p : Place) (text : Core.Expr) (f : Name) (arg : Core.Expr) (r : Resolved) → HoldsExpr text → HoldsExpr arg →
    text_call p text f arg ≡ Some r → Holds r
text_call_held p text f arg r a b e = let c = bound (text_named f) _ r e in go c.item c.gives
  where
    go : (c : TextCall) → Some (typed (text_form p text arg c) (text_result c)) ≡ Some r → Holds r
    go texts.Equals e = subst Holds (some_is e) (a, b)
    go texts.Concat e = subst Holds (some_is e) (a, b)

session_held : (p : Place) (f : Name) (args : List Core.Expr) (r : Resolved) → AllHold args → session_call p f args ≡ Some r → Holds r
session_held p f args r h e = let b = bound (session_named f) _ r e in subst Holds (some_is b.gives) h

only_held : (args : List Core.Expr) (arg : Core.Expr) → AllHold args → only args ≡ Some arg → HoldsExpr arg
only_held [] arg h e = absurd (none_some e)
only_held (a ∷ []) arg h e = subst HoldsExpr (some_is e) h.0
only_held (a ∷ b ∷ more) arg h e = absurd (none_some e)

-- what a call is on can be held
abbrev IsHeldReceiver : Receiver → Type 0
IsHeldReceiver OnThis = Unit {0}
IsHeldReceiver (OnClass name) = Unit {0}
IsHeldReceiver (OnValue r) = Holds r

module _ (tables : Tables) (few : AreFew tables.enums) where
  constant_held : (p : Place) (of name : Name) (r : Resolved) → constant tables p of name ≡ Some r → Holds r
  constant_held p of name r e =
      let b = bound (enum_called tables of) _ r e in
      let c = bound (constant_position b.item.enum name) _ r b.gives in
      let d = bound (position (bytes_eq of) (enum_names tables)) _ b.item b.is in
      let g = bound (slice_get tables.enums d.item) _ b.item d.gives in
      let s = position-Some (bytes_eq name) b.item.enum.constants c.item [] c.is in
      let small : length b.item.enum.constants ≤ 2 ^ 31 =
      subst (λ (k : Numbered). length k.enum.constants ≤ 2 ^ 31) (some_is g.gives)
      (all_holds (λ (e : Source.Enum). length e.constants ≤ 2 ^ 31) tables.enums few d.item g.item g.is) in
      subst Holds (some_is c.gives)
      (below c.item (length b.item.enum.constants) (2 ^ 31) s.0 small)

  pub initial_held : (e : Source.Expr) (x : Core.Expr) → IsWritten e → initial tables e ≡ Some x → HoldsExpr x
  initial_held (Source.Int p z) x w e = subst HoldsExpr (some_is e) (int_fits z w)
  initial_held (Source.Truth p b) x w e = subst HoldsExpr (some_is e) tt
  initial_held (Source.Text p t) x w e = subst HoldsExpr (some_is e) w
  initial_held (Source.Null p) x w e = subst HoldsExpr (some_is e) tt
  initial_held (Source.Member p (Source.Variable q of) name) x w e =
      let m = mapped (λ (r : Resolved). r.expr) (constant tables p of name) x e in
      subst HoldsExpr m.gives (constant_held p of name m.item m.is)
  initial_held e x w given = absurd (none_some given)

  static_held : (p : Place) (c : Callee) (args : List Core.Expr) (r : Resolved) → AllHold args → static_call tables p c args ≡ Some r →
      Holds r
  static_held p c args r h e = let b = bound (type_meant tables c.method.result) _ r e in subst Holds (some_is b.gives) h

  helper_held : (p : Place) (c : Callee) (args : List Core.Expr) (r : Resolved) → AllHold args → helper_call tables p c args ≡ Some r →
      Holds r
  helper_held p c args r h e = let b = bound (type_meant tables c.method.result) _ r e in subst Holds (some_is b.gives) h

  one_held : (b : Bool) (p : Place) (c : Callee) (args : List Core.Expr) (r : Resolved) → AllHold args →
      (if b then None else helper_call tables p c args) ≡ Some r → Holds r
  one_held true p c args r h e = absurd (none_some e)
  one_held false p c args r h e = helper_held p c args r h e

  class_held : (p : Place) (class f : Name) (args : List Core.Expr) (r : Resolved) → AllHold args → call_class tables p class f args ≡ Some
      r → Holds r
  class_held p class f args r h e =
      let k = bound (class_called tables class) _ r e in
      let c = bound (method_called k.item f) _ r k.gives in
      go c.item c.item.method.is_static c.gives
    where
      go : (c : Callee) (b : Bool) → (if b then static_call tables p c args else None) ≡ Some r → Holds r
      go c true e = static_held p c args r h e
      go c false e = absurd (none_some e)

  protocol_held : (p : Place) (x : CoreVar) (class : ℕ) (f : Name) (args : List Core.Expr) (r : Resolved) → AllHold args →
      call_protocol tables p x class f args ≡ Some r → Holds r
  protocol_held p x class f args r h e =
      let k = bound (slice_get tables.classes class) _ r e in
      let c = bound (method_called k.item f) _ r k.gives in
      go c.item c.item.method.is_static c.gives
    where
      go : (c : Callee) (b : Bool) → (if b then None else object_call tables p x c args) ≡ Some r → Holds r
      go c true e = absurd (none_some e)
      go c false e = let b = bound (type_meant tables c.method.result) _ r e in subst Holds (some_is b.gives) h

  typed_held : (p : Place) (e : Core.Expr) (g : Given) (f : Name) (args : List Core.Expr) (r : Resolved) → HoldsExpr e → AllHold args →
      call_typed tables p e g f args ≡ Some r → Holds r
  typed_held p e (Of types.Text) f args r a h given =
      let o = bound (only args) _ r given in text_call_held p e f o.item r a (only_held args o.item h o.is) o.gives
  typed_held p e (Of (types.Object c)) f args r a h given =
      let x = bound (variable_in e) _ r given in protocol_held p x.item c f args r h x.gives
  typed_held p e OfNull f args r a h given = absurd (none_some given)
  typed_held p e (Of types.Void) f args r a h given = absurd (none_some given)
  typed_held p e (Of types.Int) f args r a h given = absurd (none_some given)
  typed_held p e (Of types.Boolean) f args r a h given = absurd (none_some given)
  typed_held p e (Of (types.Enum n)) f args r a h given = absurd (none_some given)

  module _ (at : Standing) where
    own_held : (p : Place) (f : Name) (args : List Core.Expr) (r : Resolved) → AllHold args → call_own tables at p f args ≡ Some r → Holds r
    own_held p f args r h e =
        let c = bound (method_called at.entry f) _ r e in go c.item c.item.method.is_static c.gives
      where
        go : (c : Callee) (b : Bool) → (if b then static_call tables p c args else helper_call tables p c args) ≡ Some r → Holds r
        go c true e = static_held p c args r h e
        go c false e = helper_held p c args r h e

    on_held : (p : Place) (w : Receiver) (f : Name) (args : List Core.Expr) (r : Resolved) → IsHeldReceiver w → AllHold args →
        call_on tables at p w f args ≡ Some r → Holds r
    on_held p OnThis f args r w h e =
        let c = bound (method_called at.entry f) _ r e in one_held c.item.method.is_static p c.item args r h c.gives
    on_held p (OnClass class) f args r w h e = go (bytes_eq class (codes "Session")) e
      where
        go : (b : Bool) → (if b then session_call p f args else call_class tables p class f args) ≡ Some r → Holds r
        go true e = session_held p f args r h e
        go false e = class_held p class f args r h e
    on_held p (OnValue v) f args r w h e = typed_held p v.expr v.given f args r w h e

    module _ (locals : List Known) where
      variable_held : (p : Place) (o : Option (Option Found)) (r : Resolved) → (o >>= variable_at tables at locals p) ≡ Some r → Holds r
      variable_held p None r e = absurd (none_some e)
      variable_held p (Some None) r e = absurd (none_some e)
      variable_held p (Some (Some x)) r e = subst Holds (some_is e) tt

      constant_at_held : (p : Place) (of name : Name) (o : Option (Option Found)) (r : Resolved) →
          (o >>= constant_at tables at locals p of name) ≡ Some r → Holds r
      constant_at_held p of name None r e = absurd (none_some e)
      constant_at_held p of name (Some None) r e = constant_held p of name r e
      constant_at_held p of name (Some (Some x)) r e = absurd (none_some e)

      member_held : (p : Place) (e : Source.Expr) (name : Name) (r : Resolved) → member tables at locals p e name ≡ Some r → Holds r
      member_held p (Source.This q) name r e = variable_held p (own_found tables at name) r e
      member_held p (Source.Variable q of) name r e = constant_at_held p of name (found tables at locals of) r e
      member_held p e name r given = absurd (none_some given)

      value_received : (o : Option Resolved) (w : Receiver) → ((r : Resolved) → o ≡ Some r → Holds r) →
          option_map OnValue o ≡ Some w → IsHeldReceiver w
      value_received o w h e = let m = mapped OnValue o w e in subst IsHeldReceiver m.gives (h m.item m.is)

      name_received : (p : Place) (name : Name) (o : Option (Option Found)) (w : Receiver) →
          option_map (named_receiver tables at locals p name) o ≡ Some w → IsHeldReceiver w
      name_received p name None w e = absurd (none_some e)
      name_received p name (Some None) w e = subst IsHeldReceiver (some_is e) tt
      name_received p name (Some (Some x)) w e = subst IsHeldReceiver (some_is e) tt

      received : (e : Source.Expr) (o : Option Resolved) (w : Receiver) → ((r : Resolved) → o ≡ Some r → Holds r) →
          receiver tables at locals e o ≡ Some w → IsHeldReceiver w
      received (Source.This p) o w h e = subst IsHeldReceiver (some_is e) tt
      received (Source.Variable p name) o w h e = name_received p name (found tables at locals name) w e
      received e o w h given = value_received o w h given

      mutual
        pub resolved_held : (e : Source.Expr) (r : Resolved) → IsWritten e → resolved tables at locals e ≡ Some r → Holds r
        resolved_held (Source.Int p z) r w e = subst Holds (some_is e) (int_fits z w)
        resolved_held (Source.Truth p b) r w e = subst Holds (some_is e) tt
        resolved_held (Source.Text p t) r w e = subst Holds (some_is e) w
        resolved_held (Source.Null p) r w e = subst Holds (some_is e) tt
        resolved_held (Source.This p) r w e = absurd (none_some e)
        resolved_held (Source.Variable p name) r w e = variable_held p (found tables at locals name) r e
        resolved_held (Source.Member p x name) r w e = member_held p x name r e
        resolved_held (Source.Neg p x) r w e =
            let b = bound (resolved tables at locals x) _ r e in subst Holds (some_is b.gives) (resolved_held x b.item w b.is)
        resolved_held (Source.Not p x) r w e =
            let b = bound (resolved tables at locals x) _ r e in subst Holds (some_is b.gives) (resolved_held x b.item w b.is)
        resolved_held (Source.Binary p o x y) r w e =
            let b = bound (resolved tables at locals x) _ r e in
            let c = bound (resolved tables at locals y) _ r b.gives in
            subst Holds (some_is c.gives) (resolved_held x b.item w.0 b.is, resolved_held y c.item w.1 c.is)
        resolved_held (Source.Call p f args) r w e =
            let b = bound (resolved_all tables at locals args) _ r e in
            own_held p f b.item r (all_resolved args b.item w.1 b.is) b.gives
        resolved_held (Source.MethodCall p x f args) r w e =
            let k = bound (receiver tables at locals x (resolved tables at locals x)) _ r e in
            let b = bound (resolved_all tables at locals args) _ r k.gives in
            on_held p k.item f b.item r (received x (resolved tables at locals x) k.item (λ v is. resolved_held x v w.0 is) k.is)
            (all_resolved args b.item w.2 b.is) b.gives
        resolved_held (Source.New p class) r w e =
            let k = bound (class_called tables class) _ r e in subst Holds (some_is k.gives) tt

        pub all_resolved : (args : Source.Exprs) (es : List Core.Expr) → AreWritten args → resolved_all tables at locals args ≡ Some es →
            AllHold es
        all_resolved Source.NoExpr es w e = subst AllHold (some_is e) tt
        all_resolved (Source.Argument x more) es w e =
            let b = bound (resolved tables at locals x) _ es e in
            let c = bound (resolved_all tables at locals more) _ es b.gives in
            subst AllHold (some_is c.gives) (resolved_held x b.item w.0 b.is, all_resolved more c.item w.1 c.is)
