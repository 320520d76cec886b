-- What the declarations of files are resolved to can be held.
use Rattle.std.proofs.Common.{◌≡◌, ℕ, suc, ◌≤◌, inl, inr, List, [], ◌∷◌, length, Option, Some, None, refl, sym, ap, subst}
use Rattle.std.specs.List.{AllByRecursion}
use Rattle.mg_text.specs.Call.{Name}
use Rattle.jv_tree.specs.declared.tree.Param.{Param}
use Rattle.jv_tree.specs.Source
use Rattle.jv_core.specs.Tree as Core
use Rattle.jv_names.proofs.Tables.{some_is}
use Rattle.jv_resolve_law.specs.Tables.{Entry, Tables, type_meant, interned}
use Rattle.jv_resolve_law.specs.Expressions.{Known, Standing, initial}
use Rattle.jv_resolve_law.specs.Statements.{Counted, slot_more, declared, stmts}
use Rattle.jv_resolve_law.specs.Members.{Naming, Opened, all_interned, enum, enums, begins_with, field, fields, class, classes, params}
use Rattle.jv_resolve_law.specs.Members.{method, methods_of, methods}
use Rattle.jv_resolve_law.proofs.Steps.{bound, mapped}
use Rattle.jv_back.proofs.Told.{IsNamed}
use Rattle.jv_back.proofs.Stmts.{IsWrittenValue}
use Rattle.jv_back.proofs.Members.{IsWrittenField, IsWrittenParam, AreWrittenParams, IsWrittenMethod}
use Rattle.jv_back.proofs.Files.{IsWrittenClass, AreWrittenConstants, IsWrittenEnum}
use Rattle.gen_links.specs.Held.{HoldsValue, HoldsStmts}
use Rattle.gen_held.proofs.Words.{AreFine, fine, fine_with, all_in_back}
use Rattle.gen_held.proofs.Exprs.{AreFew, initial_held}
use Rattle.gen_held.proofs.Stmts.{slot_kept, stmts_kept}

-- names that can be held, and what was resolved with them
pub record KeptWith (A : Type 0) (Is : A → Type 0) (r : Naming A) : Type 0 where
  pub names : AreFine r.names
  pub it : Is r.it

-- names and constants

interned_kept : (ns xs : List Name) (r : Naming (List ℕ)) → all_interned ns xs ≡ Some r → AllByRecursion IsNamed xs → AreFine ns →
    AreFine r.names × (length r.it ≡ length xs)
interned_kept ns [] r e w f =
    subst (λ (z : Naming (List ℕ)). AreFine z.names × (length z.it ≡ 0)) (some_is e) (f, refl)
interned_kept ns (x ∷ xs) r e w f =
    let n = bound (interned ns x) _ r e in
    let m = bound (all_interned n.item.names xs) _ r n.gives in
    let h = interned_kept n.item.names xs m.item m.is w.1 (fine_with ns x n.item n.is (fine x w.0) f) in
    subst (λ (z : Naming (List ℕ)). AreFine z.names × (length z.it ≡ length (x ∷ xs))) (some_is m.gives) (h.0, ap suc h.1)

constants_named : (xs : List Name) → AreWrittenConstants xs → AllByRecursion IsNamed xs
constants_named [] w = absurd w
constants_named (x ∷ xs) w = w

-- enums with as many constants as those of the text
pub record AreAsMany (es : List Source.Enum) (r : Naming (List Core.Enum)) : Type 0 where
  pub names : AreFine r.names
  pub many : (limit : ℕ) → AllByRecursion (λ (e : Core.Enum). length e.constants ≤ limit) r.it →
      AllByRecursion (λ (e : Source.Enum). length e.constants ≤ limit) es

enum_kept : (ns : List Name) (e : Source.Enum) (r : Naming Core.Enum) → enum ns e ≡ Some r → IsWrittenEnum e → AreFine ns →
    AreFine r.names × (length r.it.constants ≡ length e.constants)
enum_kept ns e r given w f =
    let n = bound (interned ns e.name) _ r given in
    let cs = bound (all_interned n.item.names e.constants) _ r n.gives in
    let h = interned_kept n.item.names e.constants cs.item cs.is (constants_named e.constants w.constants)
    (fine_with ns e.name n.item n.is (fine e.name w.name) f) in
    subst (λ (z : Naming Core.Enum). AreFine z.names × (length z.it.constants ≡ length e.constants)) (some_is cs.gives) (h.0, h.1)

pub enums_kept : (ns : List Name) (es : List Source.Enum) (r : Naming (List Core.Enum)) → enums ns es ≡ Some r →
    AllByRecursion IsWrittenEnum es →
    AreFine ns → AreAsMany es r
enums_kept ns [] r given w f = subst (AreAsMany []) (some_is given) (record { names = f; many = λ limit h. tt })
enums_kept ns (e ∷ es) r given w f =
    let k = bound (enum ns e) _ r given in
    let m = bound (enums k.item.names es) _ r k.gives in
    let one = enum_kept ns e k.item k.is w.0 f in
    let rest = enums_kept k.item.names es m.item m.is w.1 one.0 in
    subst (AreAsMany (e ∷ es)) (some_is m.gives) (record {
      names = rest.names;
      many = λ limit h. (subst (λ n. n ≤ limit) one.1 h.0, rest.many limit h.1);
    })

abbrev pub FieldHeld : Core.Field → Type 0
FieldHeld f = HoldsValue f.value

abbrev pub ClassHeld : Core.Class → Type 0
ClassHeld k = AllByRecursion (λ (f : Core.Field). HoldsValue f.value) k.fields

abbrev pub MethodHeld : Core.Method → Type 0
MethodHeld m = HoldsStmts m.body

abbrev pub EntryWritten : Entry → Type 0
EntryWritten x = IsWrittenClass x.class

module _ (tables : Tables) (few : AreFew tables.enums) where
  begins_held : (value : Option Source.Expr) (v : Option Core.Expr) → IsWrittenValue value → begins_with tables value ≡ Some v →
      HoldsValue v
  begins_held None v w e = subst HoldsValue (some_is e) tt
  begins_held (Some x) v w e =
      let m = mapped Some (initial tables x) v e in subst HoldsValue m.gives (initial_held tables few x m.item w m.is)

  field_kept : (ns : List Name) (x : Source.Field) (r : Naming Core.Field) → field tables ns x ≡ Some r → IsWrittenField x → AreFine ns →
      KeptWith Core.Field FieldHeld r
  field_kept ns x r given w f =
      let n = bound (interned ns x.name) _ r given in
      let ty = bound (type_meant tables x.ty) _ r n.gives in
      let v = bound (begins_with tables x.value) _ r ty.gives in
      subst (KeptWith Core.Field FieldHeld) (some_is v.gives) (record {
        names = fine_with ns x.name n.item n.is (fine x.name w.name) f;
        it = begins_held x.value v.item w.value v.is;
      })

  fields_kept : (ns : List Name) (xs : List Source.Field) (r : Naming (List Core.Field)) → fields tables ns xs ≡ Some r →
      AllByRecursion IsWrittenField xs → AreFine ns → KeptWith (List Core.Field) (AllByRecursion FieldHeld) r
  fields_kept ns [] r given w f = subst (KeptWith (List Core.Field) (AllByRecursion FieldHeld)) (some_is given)
      (record { names = f; it = tt })
  fields_kept ns (x ∷ xs) r given w f =
      let k = bound (field tables ns x) _ r given in
      let m = bound (fields tables k.item.names xs) _ r k.gives in
      let one = field_kept ns x k.item k.is w.0 f in
      let rest = fields_kept k.item.names xs m.item m.is w.1 one.names in
      subst (KeptWith (List Core.Field) (AllByRecursion FieldHeld)) (some_is m.gives)
      (record { names = rest.names; it = (one.it, rest.it) })

  class_kept : (ns : List Name) (x : Entry) (r : Naming Core.Class) → class tables ns x ≡ Some r → IsWrittenClass x.class → AreFine ns →
      KeptWith Core.Class ClassHeld r
  class_kept ns x r given w f =
      let n = bound (interned ns x.class.name) _ r given in
      let fs = bound (fields tables n.item.names x.class.fields) _ r n.gives in
      let h = fields_kept n.item.names x.class.fields fs.item fs.is w.fields
      (fine_with ns x.class.name n.item n.is (fine x.class.name w.name) f) in
      subst (KeptWith Core.Class ClassHeld) (some_is fs.gives) (record { names = h.names; it = h.it })

  pub classes_kept : (ns : List Name) (xs : List Entry) (r : Naming (List Core.Class)) → classes tables ns xs ≡ Some r →
      AllByRecursion EntryWritten xs → AreFine ns → KeptWith (List Core.Class) (AllByRecursion ClassHeld) r
  classes_kept ns [] r given w f = subst (KeptWith (List Core.Class) (AllByRecursion ClassHeld)) (some_is given)
      (record { names = f; it = tt })
  classes_kept ns (x ∷ xs) r given w f =
      let k = bound (class tables ns x) _ r given in
      let m = bound (classes tables k.item.names xs) _ r k.gives in
      let one = class_kept ns x k.item k.is w.0 f in
      let rest = classes_kept k.item.names xs m.item m.is w.1 one.names in
      subst (KeptWith (List Core.Class) (AllByRecursion ClassHeld)) (some_is m.gives)
      (record { names = rest.names; it = (one.it, rest.it) })

  params_named : (m : Source.Method) → AreWrittenParams m → AllByRecursion IsWrittenParam m.params
  params_named m (inl (plain, are)) = are
  params_named m (inr (args, empty, is)) = subst (AllByRecursion IsWrittenParam) (sym empty) tt

  params_kept : (ps : List Param) (locals : List Known) (s : Counted) (o : Opened) → params tables ps locals s ≡ Some o →
      AllByRecursion IsWrittenParam ps → AreFine s.names → AreFine o.so_far.names
  params_kept [] locals s o given w f = subst (λ (z : Opened). AreFine z.so_far.names) (some_is given) f
  params_kept (p ∷ ps) locals s o given w f =
      let k = bound (slot_more tables p.ty p.name s) _ o given in
      let more = bound (declared k.item.it locals) _ o k.gives in
      params_kept ps more.item k.item.so_far o more.gives w.1 (slot_kept tables few p.ty p.name s k.item k.is w.0.1 f)

  method_kept : (ns : List Name) (x : Entry) (m : Source.Method) (r : Naming Core.Method) → method tables ns x m ≡ Some r →
      IsWrittenMethod m →
      AreFine ns → KeptWith Core.Method MethodHeld r
  method_kept ns x m r given w f =
      let n = bound (interned ns m.name) _ r given in
      let ty = bound (type_meant tables m.result) _ r n.gives in
      let o = bound (params tables m.params [] (record { names = n.item.names; slots = []; loops = [] })) _ r ty.gives in
      let at : Standing = record { entry = x; is_static = m.is_static } in
      let b = bound (stmts tables at m.body [] o.item.locals o.item.so_far) _ r o.gives in
      let opened = params_kept m.params [] (record { names = n.item.names; slots = []; loops = [] }) o.item o.is (params_named m w.params)
      (fine_with ns m.name n.item n.is (fine m.name w.name) f) in
      let h = stmts_kept tables few at m.body [] o.item.locals o.item.so_far b.item w.body opened b.is in
      subst (KeptWith Core.Method MethodHeld) (some_is b.gives) (record { names = h.names; it = h.it })

  methods_in_kept : (ns : List Name) (x : Entry) (ms : List Source.Method) (r : Naming (List Core.Method)) →
      methods_of tables ns x ms ≡ Some r →
      AllByRecursion IsWrittenMethod ms → AreFine ns → KeptWith (List Core.Method) (AllByRecursion MethodHeld) r
  methods_in_kept ns x [] r given w f = subst (KeptWith (List Core.Method) (AllByRecursion MethodHeld)) (some_is given)
      (record { names = f; it = tt })
  methods_in_kept ns x (y ∷ ys) r given w f =
      let k = bound (method tables ns x y) _ r given in
      let m = bound (methods_of tables k.item.names x ys) _ r k.gives in
      let one = method_kept ns x y k.item k.is w.0 f in
      let rest = methods_in_kept k.item.names x ys m.item m.is w.1 one.names in
      subst (KeptWith (List Core.Method) (AllByRecursion MethodHeld)) (some_is m.gives)
      (record { names = rest.names; it = (one.it, rest.it) })

  pub methods_kept : (ns : List Name) (xs : List Entry) (r : Naming (List Core.Method)) → methods tables ns xs ≡ Some r →
      AllByRecursion EntryWritten xs → AreFine ns → KeptWith (List Core.Method) (AllByRecursion MethodHeld) r
  methods_kept ns [] r given w f = subst (KeptWith (List Core.Method) (AllByRecursion MethodHeld)) (some_is given)
      (record { names = f; it = tt })
  methods_kept ns (x ∷ xs) r given w f =
      let k = bound (methods_of tables ns x x.class.methods) _ r given in
      let m = bound (methods tables k.item.names xs) _ r k.gives in
      let one = methods_in_kept ns x x.class.methods k.item k.is w.0.methods f in
      let rest = methods_kept k.item.names xs m.item m.is w.1 one.names in
      subst (KeptWith (List Core.Method) (AllByRecursion MethodHeld)) (some_is m.gives) (record {
        names = rest.names;
        it = all_in_back MethodHeld k.item.it m.item.it one.it rest.it;
      })
