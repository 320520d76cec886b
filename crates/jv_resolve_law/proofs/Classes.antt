-- What enums and classes are resolved to stands for them.
use Rattle.std.proofs.Common.{◌≡◌, ℕ, zero, suc, List, [], ◌∷◌, map, length, Option, Some, None, option_map, position, slice_get, refl, sym}
use Rattle.std.proofs.Common.{ap, ◌∙◌, subst}
use Rattle.std.specs.Str.{bytes_eq}
use Rattle.mg_text.specs.Call.{Name}
use Rattle.mg_text.specs.declared.place.Place.{Place}
use Rattle.jv_tree.specs.Source
use Rattle.jv_meaning.specs.Program.{constant_position}
use Rattle.jv_rules.specs.Program.{Program}
use Rattle.jv_core.specs.declared.program.CoreType.{CoreType}
use Rattle.jv_core.specs.Tree as Core
use Rattle.jv_core.specs.Numbering.{numbers_from}
use Rattle.jv_names.specs.Resolves.{Aligned, IsNamed, IsInitial, FieldIs, IsProtocol, ClassIs, EnumIs}
use Rattle.jv_names.specs.Resolves as is
use Rattle.jv_names.proofs.Tables.{some_is, none_some}
use Rattle.jv_resolve_law.specs.Tables.{Entry, Tables, enum_called, type_meant, followed, interned}
use Rattle.jv_resolve_law.specs.Expressions.{Resolved, constant, initial}
use Rattle.jv_resolve_law.specs.Members.{Naming, all_interned, enum, enums, begins_with, field, fields, class, classes}
use Rattle.jv_resolve_law.proofs.Steps.{bound, mapped, Extends, numbered}
use Rattle.jv_resolve_law.proofs.Tabled.{IsTabled, enum_called_is, type_meant_is, follows}

-- names that got their numbers
record AllNamed (names : List Name) (xs : List Name) (r : Naming (List ℕ)) : Type 0 where
  grown : Extends names r.names
  are : (program : Program) (core : Core.Program) → Extends r.names core.names → Aligned (λ name n. IsNamed program core n name) xs r.it

all_named : (names xs : List Name) (r : Naming (List ℕ)) → all_interned names xs ≡ Some r → AllNamed names xs r
all_named names [] r given = subst (AllNamed names []) (some_is given) (record { grown = λ n a e. e; are = λ program core k. is.none })
all_named names (x ∷ xs) r given =
    let b = bound (interned names x) _ r given in
    let c = bound (all_interned b.item.names xs) _ r b.gives in
    let h = numbered names x b.item b.is in
    let w = all_named b.item.names xs c.item c.is in
    subst (AllNamed names (x ∷ xs)) (some_is c.gives) (record {
      grown = λ n a e. w.grown n a (h.grown n a e);
      are = λ program core k. is.more (k b.item.number x (w.grown b.item.number x h.at)) (w.are program core k);
    })

record EnumMade (names : List Name) (e : Source.Enum) (r : Naming Core.Enum) : Type 0 where
  grown : Extends names r.names
  is : (program : Program) (core : Core.Program) → Extends r.names core.names → EnumIs program core e r.it

enum_made : (names : List Name) (e : Source.Enum) (r : Naming Core.Enum) → enum names e ≡ Some r → EnumMade names e r
enum_made names e r given =
    let b = bound (interned names e.name) _ r given in
    let c = bound (all_interned b.item.names e.constants) _ r b.gives in
    let h = numbered names e.name b.item b.is in
    let w = all_named b.item.names e.constants c.item c.is in
    subst (EnumMade names e) (some_is c.gives) (record {
      grown = λ n a e. w.grown n a (h.grown n a e);
      is = λ program core k. record {
        name = k b.item.number e.name (w.grown b.item.number e.name h.at);
        constants =
            w.are program core k;
      };
    })

pub record EnumsMade (names : List Name) (es : List Source.Enum) (r : Naming (List Core.Enum)) : Type 0 where
  pub grown : Extends names r.names
  pub are : (program : Program) (core : Core.Program) → Extends r.names core.names → Aligned (EnumIs program core) es r.it

pub enums_made : (names : List Name) (es : List Source.Enum) (r : Naming (List Core.Enum)) → enums names es ≡ Some r →
    EnumsMade names es r
enums_made names [] r given = subst (EnumsMade names []) (some_is given) (record { grown = λ n a e. e; are = λ program core k. is.none })
enums_made names (e ∷ es) r given =
    let b = bound (enum names e) _ r given in
    let c = bound (enums b.item.names es) _ r b.gives in
    let h = enum_made names e b.item b.is in
    let w = enums_made b.item.names es c.item c.is in
    subst (EnumsMade names (e ∷ es)) (some_is c.gives) (record {
      grown = λ n a e. w.grown n a (h.grown n a e);
      are = λ program core k. is.more (h.is program core (λ n a e. k n a (w.grown n a e))) (w.are program core k);
    })

module _ (program : Program) (tables : Tables) (t : IsTabled program tables) where
  -- What fields begin with.

  initial_constant : (core : Core.Program) (p q : Place) (of name : Name) (r : Resolved) → constant tables p of name ≡ Some r →
      IsInitial program core (Some (Source.Member p (Source.Variable q of) name)) (Some r.expr)
  initial_constant core p q of name r given =
      let b = bound (enum_called tables of) _ r given in
      let c = bound (constant_position b.item.enum name) _ r b.gives in
      subst (λ (r : Resolved). IsInitial program core (Some (Source.Member p (Source.Variable q of) name)) (Some r.expr))
      (some_is c.gives)
      (is.initial_constant (enum_called_is program core tables t of b.item b.is) c.is)

  initial_is : (core : Core.Program) (e : Source.Expr) (e' : Core.Expr) → initial tables e ≡ Some e' →
      IsInitial program core (Some e) (Some e')
  initial_is core (Source.Int p z) e' given = subst (λ e'. IsInitial program core (Some (Source.Int p z)) (Some e')) (some_is given)
      is.initial_int
  initial_is core (Source.Truth p b) e' given = subst (λ e'. IsInitial program core (Some (Source.Truth p b)) (Some e')) (some_is given)
      is.initial_truth
  initial_is core (Source.Text p t) e' given = subst (λ e'. IsInitial program core (Some (Source.Text p t)) (Some e')) (some_is given)
      is.initial_text
  initial_is core (Source.Null p) e' given = subst (λ e'. IsInitial program core (Some (Source.Null p)) (Some e')) (some_is given)
      is.initial_null
  initial_is core (Source.Member p (Source.Variable q of) name) e' given =
      let m = mapped (λ (r : Resolved). r.expr) (constant tables p of name) e' given in
      subst (λ e'. IsInitial program core (Some (Source.Member p (Source.Variable q of) name)) (Some e')) m.gives
      (initial_constant core p q of name m.item m.is)
  initial_is core e e' given = absurd (none_some given)

  begins_is : (core : Core.Program) (v : Option Source.Expr) (v' : Option Core.Expr) → begins_with tables v ≡ Some v' →
      IsInitial program core v v'
  begins_is core None v' given = subst (IsInitial program core None) (some_is given) is.unwritten
  begins_is core (Some e) v' given =
      let m = mapped Some (initial tables e) v' given in
      subst (IsInitial program core (Some e)) m.gives (initial_is core e m.item m.is)

  -- Fields.

  record FieldMade (names : List Name) (f : Source.Field) (r : Naming Core.Field) : Type 0 where
    grown : Extends names r.names
    type : type_meant tables f.ty ≡ Some r.it.ty
    is : (core : Core.Program) → Extends r.names core.names → FieldIs program core f r.it

  field_made : (names : List Name) (f : Source.Field) (r : Naming Core.Field) → field tables names f ≡ Some r → FieldMade names f r
  field_made names f r given =
      let b = bound (interned names f.name) _ r given in
      let c = bound (type_meant tables f.ty) _ r b.gives in
      let d = bound (begins_with tables f.value) _ r c.gives in
      let h = numbered names f.name b.item b.is in
      subst (FieldMade names f) (some_is d.gives) (record {
        grown = h.grown;
        type = c.is;
        is = λ core k. record {
          name = k b.item.number f.name h.at;
          type = type_meant_is program core tables t f.ty c.item c.is;
          value = begins_is core f.value d.item d.is;
        };
      })

  record FieldsMade (names : List Name) (fs : List Source.Field) (r : Naming (List Core.Field)) : Type 0 where
    grown : Extends names r.names
    types : (k : ℕ) (f : Source.Field) (u : CoreType) → slice_get fs k ≡ Some f → type_meant tables f.ty ≡ Some u →
        option_map (λ d. d.ty) (slice_get r.it k) ≡ Some u
    are : (core : Core.Program) → Extends r.names core.names → Aligned (FieldIs program core) fs r.it

  fields_made : (names : List Name) (fs : List Source.Field) (r : Naming (List Core.Field)) → fields tables names fs ≡ Some r →
      FieldsMade names fs r
  fields_made names [] r given =
      subst (FieldsMade names []) (some_is given) (record
      { grown = λ n a e. e; types = λ k f u e. absurd (none_some e); are = λ core k. is.none })
  fields_made names (f ∷ fs) r given =
      let b = bound (field tables names f) _ r given in
      let c = bound (fields tables b.item.names fs) _ r b.gives in
      let h = field_made names f b.item b.is in
      let w = fields_made b.item.names fs c.item c.is in
      subst (FieldsMade names (f ∷ fs)) (some_is c.gives) (record {
        grown = λ n a e. w.grown n a (h.grown n a e);
        types = types b.item c.item h w;
        are = λ core k. is.more (h.is core (λ n a e. k n a (w.grown n a e))) (w.are core k);
      })
    where
      types : (x : Naming Core.Field) (y : Naming (List Core.Field)) → FieldMade names f x → FieldsMade x.names fs y →
          (k : ℕ) (g : Source.Field) (u : CoreType) → slice_get (f ∷ fs) k ≡ Some g → type_meant tables g.ty ≡ Some u →
          option_map (λ d. d.ty) (slice_get (x.it ∷ y.it) k) ≡ Some u
      types x y h w zero g u at e = sym h.type ∙ (ap (λ (f : Source.Field). type_meant tables f.ty) (some_is at) ∙ e)
      types x y h w (suc k) g u at e = w.types k g u at e

  -- Classes.

  protocol_is : (core : Core.Program) (s : Option Name) (n : Option ℕ) → followed program.typestates s ≡ Some n →
      IsProtocol program core s n
  protocol_is core None n given = subst (IsProtocol program core None) (some_is given) is.no_protocol
  protocol_is core (Some name) n given =
      let b = bound (position (bytes_eq name) (map (λ t. t.name) program.typestates)) _ n given in
      let w = follows program.typestates name b.item b.is in
      subst (IsProtocol program core (Some name)) (some_is b.gives) (is.protocol_named w.at w.named)

  -- a class of the core that was made of an entry
  pub record ClassOf (e : Entry) (k : Core.Class) : Type 0 where
    pub methods : k.methods ≡ numbers_from e.first_method (length e.class.methods)
    pub types : (n : ℕ) (f : Source.Field) (u : CoreType) → slice_get e.class.fields n ≡ Some f → type_meant tables f.ty ≡ Some u →
        option_map (λ d. d.ty) (slice_get k.fields n) ≡ Some u

  record ClassMade (names : List Name) (e : Entry) (r : Naming Core.Class) : Type 0 where
    grown : Extends names r.names
    of : ClassOf e r.it
    is : (core : Core.Program) → Extends r.names core.names → followed program.typestates e.class.typestate ≡ Some e.typestate →
        ClassIs program core e.class r.it

  class_made : (names : List Name) (e : Entry) (r : Naming Core.Class) → class tables names e ≡ Some r → ClassMade names e r
  class_made names e r given =
      let b = bound (interned names e.class.name) _ r given in
      let c = bound (fields tables b.item.names e.class.fields) _ r b.gives in
      let h = numbered names e.class.name b.item b.is in
      let w = fields_made b.item.names e.class.fields c.item c.is in
      subst (ClassMade names e) (some_is c.gives) (record {
        grown = λ n a e. w.grown n a (h.grown n a e);
        of = record { methods = refl; types = w.types };
        is = λ core k f. record {
          place = refl;
          name = k b.item.number e.class.name (w.grown b.item.number e.class.name h.at);
          typestate = protocol_is core e.class.typestate e.typestate f;
          fields = w.are core k;
        };
      })

  pub record ClassesMade (names : List Name) (es : List Entry) (r : Naming (List Core.Class)) : Type 0 where
    pub grown : Extends names r.names
    pub of : Aligned ClassOf es r.it
    pub are : (core : Core.Program) → Extends r.names core.names →
        ((n : ℕ) (e : Entry) → slice_get es n ≡ Some e → followed program.typestates e.class.typestate ≡ Some e.typestate) →
        Aligned (ClassIs program core) (map (λ e. e.class) es) r.it

  pub classes_made : (names : List Name) (es : List Entry) (r : Naming (List Core.Class)) → classes tables names es ≡ Some r →
      ClassesMade names es r
  classes_made names [] r given = subst (ClassesMade names []) (some_is given)
      (record { grown = λ n a e. e; of = is.none; are = λ core k f. is.none })
  classes_made names (e ∷ es) r given =
      let b = bound (class tables names e) _ r given in
      let c = bound (classes tables b.item.names es) _ r b.gives in
      let h = class_made names e b.item b.is in
      let w = classes_made b.item.names es c.item c.is in
      subst (ClassesMade names (e ∷ es)) (some_is c.gives) (record {
        grown = λ n a e. w.grown n a (h.grown n a e);
        of = is.more h.of w.of;
        are = λ core k f. is.more (h.is core (λ n a e. k n a (w.grown n a e)) (f zero e refl)) (w.are core k (λ n e at. f (suc n) e at));
      })
