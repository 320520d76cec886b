-- Values that fit their types are what the instructions of a linked program want.
use Rattle.std.proofs.Common.{◌≡◌, ℕ, Bool, true, false, List, map, None, refl, sym, ap, ◌∙◌, subst, codes}
use Rattle.std.specs.Prelude.{if◌then◌else◌, slice_get, Some, unwrap_or, ◌||◌}
use Rattle.std.specs.List.{AllByRecursion}
use Rattle.std.specs.Str.{bytes_eq}
use Rattle.mg_text.specs.Call.{Name}
use Rattle.jv_values.specs.Values.{Value, Shared, Instance}
use Rattle.jv_core.specs.declared.program.CoreType.{CoreType}
use Rattle.jv_core.specs.declared.program.CoreType.TheVariants as types
use Rattle.jv_core.specs.Tree.{Class, Program}
use Rattle.jv_core.specs.Lookup.{text_at, class_numbered}
use Rattle.jv_core.specs.Members.{IsUsable, IsResult}
use Rattle.jv_core.specs.Conditions.{IsCore}
use Rattle.vm_model.specs.declared.value.Value.TheVariants as held
use Rattle.vm_model.specs.Program as linked
use Rattle.vm_model.specs.Links.{Outline, is_some}
use Rattle.vm_model.specs.Tests.{Typed, Returned, object_name, misfit, misfit_class, misfit_type}
use Rattle.gen_rules.specs.Members.{class_name, type_in, result_in}
use Rattle.gen_links.proofs.Apart.{passes_at, distinct_left, class_texts, slice_get-map}
use Rattle.jv_sound.proofs.Lists.{same_name, name_is}
use Rattle.jv_sound.proofs.Worlds.{World, Fits, AllFit}
use Rattle.jv_sound.proofs.Worlds as worlds
use Rattle.jv_sound.proofs.Objects.{Heap, IsObject, there}
use Rattle.gen_sound.specs.Related.{flat, object_in, heap_in}
use Rattle.cls_verify.proofs.Acts.{AllMeet}
use Rattle.gen_sound.proofs.Instructions.{sort_of}
use Rattle.gen_sound.proofs.Linkage.{Linkage}

pub pass : {A : Type 0} (a b : Bool) (x y : A) → b ≡ true → (if a || b then x else y) ≡ x
pass true b x y e = refl
pass false b x y e = ap (λ c. if c then x else y) e

module _ (p : Program) (ok : IsCore p) (os : List Outline) (program : linked.Program) (me : ℕ) (known : Linkage p os program me) where
  -- a class is found under its name
  pub class_number : (c : ℕ) (k : Class) → slice_get p.classes c ≡ Some k → class_numbered p (text_at p k.name) ≡ Some c
  class_number c k at =
      passes_at (λ x. text_at p x.name) (λ x. bytes_eq (text_at p x.name) (text_at p k.name)) p.classes c k
      (distinct_left (class_texts p p.classes) (map (λ e. text_at p e.name) p.enums) ok.named_apart.types) at
      (same_name (text_at p k.name)) (λ b t. name_is (text_at p b.name) (text_at p k.name) t)

  -- an object of a class, in the meaning and in the machine
  pub record ObjectAt (w : World) (c : ℕ) (k : Class) (s : Shared) (o : ℕ) : Type 0 where
    pub instance : Instance
    pub at : slice_get s.heap o ≡ Some instance
    pub object : IsObject p ok k w instance
    pub in_heap : slice_get (heap_in p s.heap) o ≡ Some (object_in p instance)
    pub class_is : unwrap_or (class_numbered p instance.class) 0 ≡ c

  pub object_at : (w : World) (s : Shared) → Heap p ok w s → (o c : ℕ) (k : Class) → slice_get w o ≡ Some c →
      slice_get p.classes c ≡ Some k → ObjectAt w c k s o
  object_at w s h o c k e at =
      let t = there p ok h.objects o e at in
      record {
        instance = t.instance;
        at = t.is;
        object = t.object;
        in_heap = slice_get-map (object_in p) s.heap o t.instance t.is;
        class_is = ap (λ n. unwrap_or (class_numbered p n) 0) t.object.named ∙ ap (λ x. unwrap_or x 0) (class_number c k at);
      }

  -- an object where one of its class is wanted
  pub object_fits : (w : World) (s : Shared) → Heap p ok w s → (o c : ℕ) (k : Class) → slice_get w o ≡ Some c →
      slice_get p.classes c ≡ Some k → misfit_class program (heap_in p s.heap) (text_at p k.name) (held.Object o) ≡ None
  object_fits w s h o c k e at =
      let t = object_at w s h o c k e at in
      let name : Name = text_at p k.name in
      let is : object_name program (slice_get (heap_in p s.heap) o) ≡ name =
      ap (object_name program) t.in_heap ∙ ap (linked.class_name program) t.class_is ∙ known.class_named c k at in
      pass (bytes_eq name (codes "java/lang/Object")) (bytes_eq name (object_name program (slice_get (heap_in p s.heap) o))) None _
      (ap (bytes_eq name) is ∙ same_name name)

  pub class_name_is : (c : ℕ) (k : Class) → slice_get p.classes c ≡ Some k → class_name p c ≡ text_at p k.name
  class_name_is c k at = rw at refl

  pub type_fits : (w : World) (s : Shared) → Heap p ok w s → (v : Value) (t : CoreType) → Fits p w v t → IsUsable p t →
      misfit_type program (heap_in p s.heap) (type_in p t) (flat v) ≡ None
  type_fits w s h v t worlds.int u = refl
  type_fits w s h v t worlds.truth u = refl
  type_fits w s h v t worlds.text u = refl
  type_fits w s h v t worlds.null u = refl
  type_fits w s h v t (worlds.object {o = o} {c = c} e) u =
      subst (λ n. misfit_class program (heap_in p s.heap) n (held.Object o) ≡ None) (sym (class_name_is c u.class u.at))
      (object_fits w s h o c u.class e u.at)
  type_fits w s h v t (worlds.constant e) u = refl

  pub all_meet : (w : World) (s : Shared) → Heap p ok w s → (vs : List Value) (ts : List CoreType) → AllFit p w vs ts →
      AllByRecursion (IsUsable p) ts → AllMeet program (heap_in p s.heap) (map Typed (map (type_in p) ts)) (map flat vs)
  all_meet w s h vs ts worlds.no_values u = tt
  all_meet w s h vs ts (worlds.value {v = v} {vs = more} {t = t} {ts = rest} f fs) u =
      (type_fits w s h v t f u.0, all_meet w s h more rest fs u.1)

  -- a value where a method of its type returns it
  pub returned_fits : (w : World) (s : Shared) → Heap p ok w s → (v : Value) (t : CoreType) → Fits p w v t → IsResult p t →
      misfit program (heap_in p s.heap) (Returned (sort_of t) (result_in p t)) (flat v) ≡ None
  returned_fits w s h v t worlds.int u = refl
  returned_fits w s h v t worlds.truth u = refl
  returned_fits w s h v t worlds.text u = refl
  returned_fits w s h v t worlds.null u = refl
  returned_fits w s h v t (worlds.object {o = o} {c = c} e) u = type_fits w s h v (types.Object c) (worlds.object e) u
  returned_fits w s h v t (worlds.constant e) u = refl

  pub has_result : (w : World) (v : Value) (t : CoreType) → Fits p w v t → is_some (result_in p t) ≡ true
  has_result w v t worlds.int = refl
  has_result w v t worlds.truth = refl
  has_result w v t worlds.text = refl
  has_result w v t worlds.null = refl
  has_result w v t (worlds.object e) = refl
  has_result w v t (worlds.constant e) = refl
