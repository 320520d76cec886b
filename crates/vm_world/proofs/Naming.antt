-- The names of methods keep their numbers while more texts are kept.
use Rattle.std.proofs.Common.{◌≡◌, ℕ, zero, suc, ◌<◌, List, [], ◌∷◌, ◌++◌, length, get_or, slice_get, Option, Some, None, IsSome}
use Rattle.std.proofs.Common.{refl, sym, ap, ◌∙◌, subst, arith}
use Rattle.std.proofs.lemmas.List.{get_or_append_left, length-append}
use Rattle.std.specs.List.{AllZip}
use Rattle.mg_text.specs.Call.{Name}
use Rattle.vm_model.specs.Program.{Program, ClassOf, MethodOf, methods_in, method_at}
use Rattle.vm_model.specs.Tests.{name_of_method}
use Rattle.vm_typed.specs.declared.telling.Telling.{Telling}
use Rattle.vm_typed.specs.declared.telling.Telling.TheVariants as tellings
use Rattle.vm_typed.specs.Telling.{event_told, IsThere}
use Rattle.vm_events.specs.Seen.{Grows, IsNumbered, IsNamed, numbered_event}
use Rattle.mg_text.specs.declared.event.Event.TheVariants as seen
use Rattle.vm_world.specs.declared.names.ClassNames.{ClassNames}
use Rattle.vm_world.specs.declared.names.MethodNames.{MethodNames}
use Rattle.vm_world.specs.Names.{IsMethodName, AreClassNames, AreNames, number_in, number_at, numbered_by}

pub grows_none : {A : Type 0} (xs : List A) → Grows xs xs
grows_none xs = ([], sym (Rattle.std.proofs.Common.append-nil xs))

pub grows_two : {A : Type 0} (xs ys zs : List A) → Grows xs ys → Grows ys zs → Grows xs zs
grows_two xs ys zs g h =
    (g.0 ++ h.0, h.1 ∙ ap (λ l. l ++ h.0) g.1 ∙ Rattle.std.proofs.Common.append_assoc xs g.0 h.0)

zip_more : {A B : Type 0} (R S : A → B → Type 0) → ((x : A) (y : B) → R x y → S x y) → (xs : List A) (ys : List B) → AllZip R xs ys →
    AllZip S xs ys
zip_more R S weaker [] [] h = tt
zip_more R S weaker [] (y ∷ ys) h = absurd h
zip_more R S weaker (x ∷ xs) [] h = absurd h
zip_more R S weaker (x ∷ xs) (y ∷ ys) h = (weaker x y h.0, zip_more R S weaker xs ys h.1)

module _ (ts us : List Name) (g : Grows ts us) where
  numbered_more : (n : ℕ) (text : Name) → IsNumbered ts n text → IsNumbered us n text
  numbered_more n text h = record {
    there = omega (arith, h.there, ap length g.1, length-append ts g.0);
    says = ap (λ l. get_or l n []) g.1 ∙ get_or_append_left ts g.0 [] n h.there ∙ h.says;
  }

  pub methods_more : (ns : List ℕ) (ms : List MethodOf) → AllZip (IsMethodName ts) ns ms → AllZip (IsMethodName us) ns ms
  methods_more ns ms h =
      zip_more (IsMethodName ts) (IsMethodName us) (λ n method. numbered_more n method.name) ns ms h

  pub classes_more : (ns : List ClassNames) (p : List ClassOf) → AllZip (AreClassNames ts) ns p → AllZip (AreClassNames us) ns p
  classes_more ns p h =
      zip_more (AreClassNames ts) (AreClassNames us) (λ names class. methods_more names.methods.items class.methods) ns p h

  pub names_more : (names : MethodNames) (p : Program) → AreNames ts names p → AreNames us names p
  names_more names p h = classes_more names.classes.items p h

-- the number of a method's name
module _ (texts : List Name) where
  method_name : (ns : List ℕ) (ms : List MethodOf) → AllZip (IsMethodName texts) ns ms → (k : ℕ) → IsSome (slice_get ms k) →
      IsNumbered texts (get_or ns k 0) (name_of_method (slice_get ms k))
  method_name [] [] h k there = absurd (cc there)
  method_name [] (m ∷ ms) h k there = absurd h
  method_name (n ∷ ns) [] h k there = absurd h
  method_name (n ∷ ns) (m ∷ ms) h zero there = h.0
  method_name (n ∷ ns) (m ∷ ms) h (suc k) there = method_name ns ms h.1 k there

  class_name : (ns : List ClassNames) (p : Program) → AllZip (AreClassNames texts) ns p → (class method : ℕ) →
      IsSome (slice_get (methods_in (slice_get p class)) method) →
      IsNumbered texts (number_in (slice_get ns class) method) (name_of_method (slice_get (methods_in (slice_get p class)) method))
  class_name [] [] h class method there = absurd (cc there)
  class_name [] (c ∷ p) h class method there = absurd h
  class_name (n ∷ ns) [] h class method there = absurd h
  class_name (n ∷ ns) (c ∷ p) h zero method there = method_name n.methods.items c.methods h.0 method there
  class_name (n ∷ ns) (c ∷ p) h (suc class) method there = class_name ns p h.1 class method there

  module _ (names : MethodNames) (p : Program) (named : AreNames texts names p) where
    told_name : (class method : ℕ) → IsSome (method_at p class method) →
        IsNumbered texts (number_at names class method) (name_of_method (method_at p class method))
    told_name class method there = class_name names.classes.items p named class method there

    pub is_named : (telling : Telling) → IsThere p telling → IsNamed (length texts) (numbered_by names telling)
    is_named (tellings.Enter object class method) there = (told_name class method there).there
    is_named (tellings.Leave object answer) there = tt

    pub numbered_is : (telling : Telling) → IsThere p telling → numbered_event texts (numbered_by names telling) ≡ event_told p telling
    numbered_is (tellings.Enter object class method) there = ap (λ t. seen.Enter object t) (told_name class method there).says
    numbered_is (tellings.Leave object answer) there = refl
