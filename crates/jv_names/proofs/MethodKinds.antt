-- The kinds of a core's methods.
use Rattle.std.proofs.Common.{◌≡◌, ⊎_elim, ℕ, Bool, true, false, true≢false, ◌||◌, List, [], ◌∷◌, length, Contains, slice_get}
use Rattle.std.proofs.Common.{option_and_then, Option, Some, None, refl, sym, ap, ◌∙◌, subst}
use Rattle.std.specs.List.{list_any}
use Rattle.std.specs.Str.{bytes_eq}
use Rattle.std.proofs.lemmas.Slice.Eq.{bytes_eq-Decides}
use Rattle.std.proofs.lemmas.List.Elements.{Contains-append_left, Contains-append_right, Contains-append_cases}
use Rattle.mg_text.specs.Call.{Name}
use Rattle.ts_tree.specs.Typestate as protocols
use Rattle.ts_tree.specs.Proper.{IsOffered}
use Rattle.ts_tree.specs.declared.parts.TypeName.TheVariants as written
use Rattle.jv_tree.specs.Source
use Rattle.jv_meaning.specs.Program.{classes_of, typestate_named}
use Rattle.jv_rules.specs.Program.{Program, typestate_of, offers_in, is_of_protocol}
use Rattle.jv_rules.specs.Shape.{IsMain, IsShapedMethod}
use Rattle.jv_rules.proofs.Tests.{nothing_in, in_cases, in_first, in_later}
use Rattle.jv_core.specs.declared.program.CoreType.{CoreType}
use Rattle.jv_core.specs.declared.program.CoreType.TheVariants as types
use Rattle.jv_core.specs.Tree as Core
use Rattle.jv_core.specs.Lookup.{IsInstance}
use Rattle.jv_core.specs.Members.{IsNamedByTypestate}
use Rattle.jv_core.specs.Conditions as core_conditions
use Rattle.jv_core.specs.Conditions.{IsOfKind}
use Rattle.jv_names.specs.Resolves.{Owned, IsType, IsProtocol, ClassIs, MethodIs, kind_of, Resolves}
use Rattle.jv_names.specs.Resolves as is
use Rattle.jv_names.proofs.Tables.{some_is, text_is, aligned_at}
use Rattle.jv_names.proofs.Naming.{kind_by, instance_kind}

-- Methods that a typestate offers.

pub offered_among : (ss : List protocols.State) (m : protocols.Method) → IsOffered ss m → Contains (offers_in ss) m
offered_among [] m o = absurd (nothing_in o.0 o.1)
offered_among (s ∷ ss) m o =
    ⊎_elim (λ same. Contains-append_left s.methods (offers_in ss) m (subst (λ (s : protocols.State). Contains s.methods m) (sym same) o.2))
    (λ more. Contains-append_right s.methods (offers_in ss) m (offered_among ss m (o.0, more, o.2))) (in_cases ss s o.0 o.1)

pub among_offered : (ss : List protocols.State) (m : protocols.Method) → Contains (offers_in ss) m → IsOffered ss m
among_offered [] m has = absurd (nothing_in m has)
among_offered (s ∷ ss) m has =
    ⊎_elim (λ here. (s, in_first ss s, here))
    (λ more. let w = among_offered ss m more in (w.0, in_later ss s w.0 w.1, w.2))
    (Contains-append_cases s.methods (offers_in ss) m has)

named_in : (ms : List protocols.Method) (name : Name) → list_any (λ m. bytes_eq m.name name) ms ≡ true →
    (m : protocols.Method) × Contains ms m × (m.name ≡ name)
named_in [] name e = absurd (true≢false (sym e))
named_in (m ∷ ms) name e = go (bytes_eq m.name name) refl e (named_in ms name)
  where
    go : (b : Bool) → bytes_eq m.name name ≡ b → (b || list_any (λ m. bytes_eq m.name name) ms) ≡ true →
        (list_any (λ m. bytes_eq m.name name) ms ≡ true → (m : protocols.Method) × Contains ms m × (m.name ≡ name)) →
        (k : protocols.Method) × Contains (m ∷ ms) k × (k.name ≡ name)
    go true same e rest = (m, in_first ms m, (bytes_eq-Decides m.name name).0 same)
    go false same e rest = let w = rest e in (w.0, in_later ms m w.0 w.1, w.2)

in_named : (ms : List protocols.Method) (name : Name) (m : protocols.Method) → Contains ms m → m.name ≡ name →
    list_any (λ m. bytes_eq m.name name) ms ≡ true
in_named [] name m has e = absurd (nothing_in m has)
in_named (k ∷ ms) name m has e =
    ⊎_elim (λ same. first ((bytes_eq-Decides k.name name).1 (ap (λ (m : protocols.Method). m.name) same ∙ e)))
    (λ more. later (bytes_eq k.name name) (in_named ms name m more e)) (in_cases ms k m has)
  where
    first : bytes_eq k.name name ≡ true → (bytes_eq k.name name || list_any (λ m. bytes_eq m.name name) ms) ≡ true
    first e = ap (λ b. b || list_any (λ (m : protocols.Method). bytes_eq m.name name) ms) e

    later : (b : Bool) → list_any (λ m. bytes_eq m.name name) ms ≡ true → (b || list_any (λ m. bytes_eq m.name name) ms) ≡ true
    later true e = refl
    later false e = e

-- the typestate that names a method
pub of_protocol : (program : Program) (class : Source.Class) (name : Name) → is_of_protocol program class name ≡ true →
    (t : protocols.Typestate) × (typestate_of program class ≡ Some t)
    × (m : protocols.Method) × Contains (offers_in t.states) m × (m.name ≡ name)
of_protocol program class name e = go (typestate_of program class) refl e
  where
    go : (o : Option protocols.Typestate) → typestate_of program class ≡ o →
        elim o [ None ↦ false | Some t ↦ list_any (λ m. bytes_eq m.name name) (offers_in t.states) ] ≡ true →
        (t : protocols.Typestate) × (typestate_of program class ≡ Some t)
        × (m : protocols.Method) × Contains (offers_in t.states) m × (m.name ≡ name)
    go None is e = absurd (true≢false (sym e))
    go (Some t) is e = let w = named_in (offers_in t.states) name e in (t, is, w.0, w.1, w.2)

pub protocol_of : (program : Program) (class : Source.Class) (name : Name) (t : protocols.Typestate) → typestate_of program class ≡ Some t →
    (m : protocols.Method) → Contains (offers_in t.states) m → m.name ≡ name → is_of_protocol program class name ≡ true
protocol_of program class name t is m has e =
    ap (λ (o : Option protocols.Typestate). elim o as (λ _. Bool)
    [ None ↦ false | Some t ↦ list_any (λ (m : protocols.Method). bytes_eq m.name name) (offers_in t.states) ]) is
    ∙ in_named (offers_in t.states) name m has e

-- Kinds.

static_of_kind : (static args protocol : Bool) → IsInstance (kind_by static args protocol) → static ≡ false
static_of_kind true true protocol h = absurd h
static_of_kind true false protocol h = absurd h
static_of_kind false args protocol h = refl

-- an instance method is one that isn't static
pub runs_on_object : (program : Program) (core : Core.Program) (c : Source.Class) (m : Source.Method) → m.is_static ≡ false →
    IsInstance (kind_of program core c m)
runs_on_object program core c m e = instance_kind m.is_static m.takes_args (is_of_protocol program c m.name) e

pub is_no_static : (program : Program) (core : Core.Program) (c : Source.Class) (m : Source.Method) → IsInstance (kind_of program core c m)
    →
    m.is_static ≡ false
is_no_static program core c m h = static_of_kind m.is_static m.takes_args (is_of_protocol program c m.name) h

module _ (program : Program) (core : Core.Program) (res : Resolves program core) where
  -- what a typestate's number stands for
  typestate_is : (class : Source.Class) (name : Option Name) (n : Option ℕ) → IsProtocol program core name n → class.typestate ≡ name →
      (t : protocols.Typestate) → typestate_of program class ≡ Some t →
      (k : ℕ) × (n ≡ Some k) × (slice_get core.typestates k ≡ Some t)
  typestate_is class _ _ is.no_protocol e t of = absurd (nowhere (sym (ap (option_and_then (typestate_named program.typestates)) e) ∙ of))
    where
      nowhere : None ≡ Some t → ⊥
      nowhere e = cc
  typestate_is class _ _ (is.protocol_named {name = name} {t = k} {typestate = s} at named) e t of =
      let same : s ≡ t = some_is (sym named ∙ sym (ap (option_and_then (typestate_named program.typestates)) e) ∙ of) in
      (k, refl, subst (λ ts. slice_get ts k ≡ Some t) (sym res.typestates) (at ∙ ap Some same))

  -- and the other way
  number_is : (class : Source.Class) (name : Option Name) (n : Option ℕ) → IsProtocol program core name n → class.typestate ≡ name →
      (k : ℕ) → n ≡ Some k → (t : protocols.Typestate) → slice_get core.typestates k ≡ Some t → typestate_of program class ≡ Some t
  number_is class _ _ is.no_protocol e k of t at = absurd (nowhere of)
    where
      nowhere : None ≡ Some k → ⊥
      nowhere e = cc
  number_is class _ _ (is.protocol_named {name = name} {t = j} {typestate = s} there named) e k of t at =
      let same : j ≡ k = some_is of in
      ap (option_and_then (typestate_named program.typestates)) e ∙ named
      ∙ (sym there ∙ ap (slice_get program.typestates) same ∙ subst (λ ts. slice_get ts k ≡ Some t) res.typestates at)

  module _ (o : Owned) (k : Core.Method) (is_it : MethodIs program core o k)
      (at : slice_get (classes_of program.files) o.owner.number ≡ Some o.owner.class) where
    named_by : is_of_protocol program o.owner.class o.method.name ≡ true → IsNamedByTypestate core k
    named_by e =
        let p = of_protocol program o.owner.class o.method.name e in
        let m = aligned_at res.classes o.owner.number o.owner.class at in
        let n = typestate_is o.owner.class o.owner.class.typestate m.item.typestate m.is.typestate refl p.0 p.1 in
        record {
          class = m.item;
          at = ap (slice_get core.classes) is_it.class ∙ m.at;
          number = n.0;
          has = n.1;
          typestate = p.0;
          typestate_at = n.2;
          offered = p.2;
          is_offered = among_offered p.0.states p.2 p.3;
          name = p.4 ∙ sym (text_is program core res k.name o.method.name is_it.name);
        }

    not_named_by : is_of_protocol program o.owner.class o.method.name ≡ false → IsNamedByTypestate core k → ⊥
    not_named_by e n =
        let m = aligned_at res.classes o.owner.number o.owner.class at in
        let same : m.item ≡ n.class = some_is (sym (ap (slice_get core.classes) is_it.class ∙ m.at) ∙ n.at) in
        let t = number_is o.owner.class o.owner.class.typestate m.item.typestate m.is.typestate refl n.number
        (subst (λ (c : Core.Class). c.typestate ≡ Some n.number) (sym same) n.has) n.typestate n.typestate_at in
        true≢false (sym (protocol_of program o.owner.class o.method.name n.typestate t n.offered
        (offered_among n.typestate.states n.offered n.is_offered) (n.name ∙ text_is program core res k.name o.method.name is_it.name)) ∙ e)

    void_is : (t : CoreType) → IsType program core o.method.result t → o.method.result ≡ written.Void → t ≡ types.Void
    void_is t type e = of_void t (subst (λ ty. IsType program core ty t) e type)
      where
        of_void : (t : CoreType) → IsType program core written.Void t → t ≡ types.Void
        of_void _ is.void_type = refl

    main_is : IsMain o.method → core_conditions.IsMain core k
    main_is m = record {
      name = text_is program core res k.name o.method.name is_it.name ∙ m.name;
      result = void_is k.result is_it.result m.result;
      params = is_it.count ∙ ap length m.params;
    }

    of_kind : (static args protocol : Bool) → (args ≡ true → IsMain o.method) → (protocol ≡ true → IsNamedByTypestate core k) →
        (protocol ≡ false → IsNamedByTypestate core k → ⊥) → IsOfKind core k (kind_by static args protocol)
    of_kind true true protocol main named unnamed = main_is (main refl)
    of_kind true false protocol main named unnamed = tt
    of_kind false args true main named unnamed = named refl
    of_kind false args false main named unnamed = unnamed refl

    -- a method is of its kind
    pub kind_kept : IsShapedMethod o.method → IsOfKind core k k.kind
    kind_kept shaped = subst (IsOfKind core k) (sym is_it.kind)
        (of_kind o.method.is_static o.method.takes_args (is_of_protocol program o.owner.class o.method.name) shaped.main named_by
        not_named_by)
