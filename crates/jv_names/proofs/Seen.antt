-- The calls of objects, and the typestates of classes, are the same on the core and on the program.
use Rattle.std.proofs.Common.{◌≡◌, ℕ, List, [], ◌∷◌, ◌++◌, map, Option, Some, None, option_map, option_and_then, slice_get, refl, sym, ap}
use Rattle.std.proofs.Common.{◌∙◌, subst, arith}
use Rattle.std.specs.Prelude.{ℤ, nat_eq, ◌&&◌}
use Rattle.std.specs.Str.{bytes_eq}
use Rattle.mg_text.specs.Call.{Name}
use Rattle.ts_tree.specs.declared.parts.TypeName.{TypeName}
use Rattle.ts_tree.specs.Typestate.{Typestate}
use Rattle.ts_tree.specs.Calls.{Path, MayBeLeft}
use Rattle.jv_tree.specs.Source
use Rattle.jv_values.specs.Seen.{Results, Told, Enters, Leaves, told, next_answer, label_in, call_left, calls_told, open_told}
use Rattle.jv_meaning.specs.Program.{classes_of, enum_named, method_named, typestate_named}
use Rattle.jv_meaning.specs.Calls as on_source
use Rattle.jv_rules.specs.Program.{Program}
use Rattle.jv_core.specs.declared.program.CoreType.{CoreType}
use Rattle.jv_core.specs.Tree as Core
use Rattle.jv_core.specs.Lookup.{text_at, class_numbered}
use Rattle.jv_core.specs.Calls as on_core
use Rattle.jv_names.specs.Resolves.{Aligned, none, more, Owned, IsType, IsProtocol, IsNamed, ClassIs, MethodIs, Resolves}
use Rattle.jv_names.specs.Resolves as resolves
use Rattle.jv_names.specs.Laws.{FollowsTheSame}
use Rattle.jv_names.proofs.Tables.{none_some, aligned_at, text_is}
use Rattle.jv_names.proofs.Lookups.{Both, find_aligned, owned_by, of_class, found_in_class}
use Rattle.jv_names.proofs.Main.{class_stands}

-- the same results give the same calls

left_same : (r r' : Results) → ((f : Name) → r f ≡ r' f) → (m : Name) (a : Option (Option ℤ)) → call_left r m a ≡ call_left r' m a
left_same r r' h m None = refl
left_same r r' h m (Some answer) = ap (λ names. record { method = m; answer = label_in names answer } ∷ []) (h m)

calls_same : (r r' : Results) → ((f : Name) → r f ≡ r' f) → (ts : List Told) → calls_told r ts ≡ calls_told r' ts
calls_same r r' h [] = refl
calls_same r r' h (Enters m ∷ ts) = ap (λ c. c ++ calls_told r ts) (left_same r r' h m (next_answer ts)) ∙ ap
    (λ c. call_left r' m (next_answer ts) ++ c) (calls_same r r' h ts)
calls_same r r' h (Leaves a ∷ ts) = calls_same r r' h ts

module _ (program : Program) (core : Core.Program) (res : Resolves program core) where
  names_same : {names : List Name} {ns : List ℕ} → Aligned (λ name n. IsNamed program core n name) names ns → names ≡ map
      (text_at core) ns
  names_same none = refl
  names_same (more {a = name} {b = n} {as' = names} {bs = ns} is rest) =
      ap (λ x. x ∷ names) (sym (text_is program core res n name is)) ∙ ap (λ xs. text_at core n ∷ xs) (names_same rest)

  constants_same : (ty : TypeName) (cty : CoreType) → IsType program core ty cty →
      on_source.constants_of program.files ty ≡ on_core.constants_of core cty
  constants_same ty cty resolves.void_type = refl
  constants_same ty cty resolves.int_type = refl
  constants_same ty cty resolves.boolean_type = refl
  constants_same ty cty resolves.text_type = refl
  constants_same ty cty (resolves.class_type {name = name} is) = ap
      (λ o. on_source.unless_class o (option_map (λ (k : Source.Enum). k.constants) (enum_named program.files name))) is.named
  constants_same ty cty (resolves.enum_type {name = name} {e = e} {k = k} away is) =
      let met = aligned_at res.enums e k is.at in
      ap (λ o. on_source.unless_class o (option_map (λ (k : Source.Enum). k.constants) (enum_named program.files name))) away
      ∙ ap (option_map (λ (k : Source.Enum). k.constants)) is.named
      ∙ ap Some (names_same met.is.constants)
      ∙ sym (ap (option_map (λ (d : Core.Enum). map (text_at core) d.constants)) met.at)

  results_same : (class : Name) (c : ℕ) → class_numbered core class ≡ Some c → (f : Name) →
      on_source.results_of program.files class f ≡ on_core.results_of core class f
  results_same class c at f =
      let stands = class_stands program core res class res.classes c at in
      let both = find_aligned res.methods (of_class c (λ m. bytes_eq m.name f))
      (λ k. nat_eq k.class c && bytes_eq (text_at core k.name) f) (λ o k is.
      ap (λ n. nat_eq n c && bytes_eq (text_at core k.name) f) is.class ∙ ap (λ x. nat_eq o.owner.number c && bytes_eq x f)
      (text_is program core res k.name o.method.name is.name)) in
      let here = found_in_class c 0 c (λ m. bytes_eq m.name f) (classes_of program.files) stands.class stands.at (omega arith) in
      ap (λ o. option_and_then (λ k. on_source.constants_of program.files k.result)
      (option_and_then (λ k. method_named k f) o)) stands.named
      ∙ go c stands.class (method_named stands.class f) (on_core.method_named core c f)
      (subst (λ o. Both (MethodIs program core) o (on_core.method_named core c f)) here both)
      ∙ sym (ap (λ o. option_and_then (λ k. on_core.constants_of core k.result)
      (option_and_then (λ n. on_core.method_named core n f) o)) at)
    where
      go : (c : ℕ) (class : Source.Class) (q : Option Source.Method) (k : Option Core.Method) → Both (MethodIs program core)
          (option_map (owned_by c class) q) k →
          option_and_then (λ (k : Source.Method). on_source.constants_of program.files k.result) q ≡ option_and_then
          (λ (k : Core.Method). on_core.constants_of core k.result) k
      go c class None None w = refl
      go c class (Some m) (Some k) w = constants_same m.result k.result w.result
      go c class None (Some k) w = absurd w
      go c class (Some m) None w = absurd w

  -- the typestate of a class

  protocol_same : (a : Option Name) (t : Option ℕ) (typestate : Typestate) → IsProtocol program core a t → option_and_then
      (slice_get core.typestates) t ≡ Some typestate →
      option_and_then (typestate_named program.typestates) a ≡ Some typestate
  protocol_same a t typestate resolves.no_protocol e = absurd (none_some e)
  protocol_same a t typestate (resolves.protocol_named {t = n} at named) e = named ∙ sym at ∙ ap (λ ts. slice_get ts n)
      (sym res.typestates) ∙ e

  numbered : (class : Name) (typestate : Typestate) → on_core.typestate_of core class ≡ Some typestate →
      (c : ℕ) × (class_numbered core class ≡ Some c)
  numbered class typestate e = go (class_numbered core class) refl e
    where
      go : (o : Option ℕ) → class_numbered core class ≡ o →
          option_and_then (slice_get core.typestates) (option_and_then (λ (k : Core.Class). k.typestate)
          (option_and_then (slice_get core.classes) o)) ≡ Some typestate → (c : ℕ) × (class_numbered core class ≡ Some c)
      go None p e = absurd (none_some e)
      go (Some c) p e = (c, p)

  typestate_same : (class : Name) (typestate : Typestate) → on_core.typestate_of core class ≡ Some typestate →
      on_source.typestate_of program.files program.typestates class ≡ Some typestate
  typestate_same class typestate e =
      let n = numbered class typestate e in
      let stands = class_stands program core res class res.classes n.0 n.1 in
      let k = aligned_at res.classes n.0 stands.class stands.at in
      ap (λ o. option_and_then (typestate_named program.typestates) (option_and_then (λ (k : Source.Class). k.typestate) o)) stands.named
      ∙ protocol_same stands.class.typestate k.item.typestate typestate k.is.typestate
      (sym (ap (λ o. option_and_then (slice_get core.typestates)
      (option_and_then (λ (k : Core.Class). k.typestate) (option_and_then (slice_get core.classes) o))) n.1
      ∙ ap (λ o. option_and_then (slice_get core.typestates) (option_and_then (λ (k : Core.Class). k.typestate) o)) k.at) ∙ e)

  calls_are : (class : Name) (typestate : Typestate) → on_core.typestate_of core class ≡ Some typestate → (ts : List Told) →
      calls_told (on_core.results_of core class) ts ≡ calls_told (on_source.results_of program.files class) ts
  calls_are class typestate e ts =
      let n = numbered class typestate e in
      calls_same _ _ (λ f. sym (results_same class n.0 n.1 f)) ts

pub follows_the_same : FollowsTheSame
follows_the_same program core res events = record {
  follows = λ h. record {
    alternate = h.alternate;
    path = λ o c made.
        let p = h.path o c made in
        record {
          typestate = p.typestate;
          named = typestate_same program core res c p.typestate p.at;
          path = subst (λ calls. Path p.typestate calls (open_told (told o events)))
              (calls_are program core res c p.typestate p.at (told o events)) p.path;
        };
  };
  finished = λ h. record {
    closed = h.closed;
    ends = λ o c made.
        let p = h.ends o c made in
        record {
          typestate = p.typestate;
          named = typestate_same program core res c p.typestate p.at;
          ends = subst (λ calls. MayBeLeft p.typestate calls) (calls_are program core res c p.typestate p.at (told o events)) p.ends;
        };
  };
}
