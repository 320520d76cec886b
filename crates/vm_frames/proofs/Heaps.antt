-- The objects, once one is made or a field of one has changed.
use Rattle.std.proofs.Common.{◌≡◌, ℕ, ◌≤◌, List, [], ◌∷◌, ◌++◌, length, set, slice_get, Option, Some, None, refl, sym, ap, ◌∙◌, subst}
use Rattle.std.proofs.Common.{◌<◌, IsSome, arith}
use Rattle.std.proofs.lemmas.List.{map-set, map_push, length-map}
use Rattle.std.proofs.lemmas.List.Elements.{All-set}
use Rattle.std.proofs.lemmas.Option.{slice_get-map, slice_get_past, slice_get_within}
use Rattle.std.specs.Prelude.{All, IfSome}
use Rattle.std.specs.Option.{option_map}
use Rattle.mg_text.specs.Call.{Name}
use Rattle.vm_model.specs.declared.value.Value.{Value}
use Rattle.vm_frames.specs.declared.cell.Cell.{Cell}
use Rattle.vm_frames.specs.declared.cell.Head.{Head}
use Rattle.vm_frames.specs.declared.cell.Object.{Object}
use Rattle.vm_frames.specs.Seen.{Seen, value_in, values_in, IsSet}
use Rattle.vm_frames.specs.View.{object_in, objects_in, cell_of_object, cell_in, machine_in, seen_in}
use Rattle.vm_frames.specs.Kept.{IsObject}
use Rattle.vm_frames.specs.Frames.{field_in, field_of_object, with_field}
use Rattle.vm_frames.proofs.Rows.{at_slice}

-- an object that has a field
pub has_object : (field : ℕ) (o : Option Object) → IsSome (cell_of_object field o) →
    (x : Object) × (o ≡ Some x) × IsSome (slice_get x.fields.items field)
has_object field None e = absurd (cc e)
has_object field (Some o) e = (o, refl, e)

pub some_mapped : {A B : Type 0} (f : A → B) (o : Option A) → IsSome (option_map f o) → IsSome o
some_mapped f None e = absurd (cc e)
some_mapped f (Some x) e = refl

pub some_within : {A : Type 0} (xs : List A) (k : ℕ) (o : Option A) → slice_get xs k ≡ o → IsSome o → k < length xs
some_within xs k None is e = absurd (cc e)
some_within xs k (Some x) is e = slice_get_within xs k x is

module _ (texts : List Name) where
  same_class : (o : Option Object) → option_map (λ o. o.class) o ≡ option_map (λ o. o.class) (option_map (object_in texts) o)
  same_class None = refl
  same_class (Some o) = refl

  same_field : (field : ℕ) (o : Option Object) →
      option_map (value_in texts) (cell_of_object field o) ≡ field_of_object field (option_map (object_in texts) o)
  same_field field None = refl
  same_field field (Some o) = sym (slice_get-map (value_in texts) o.fields.items field)

module _ (texts : List Name) (head : Head) (heads : List Head) (row : List Cell) (rows : List (List Cell)) (heap : List Object) (s : Seen)
    (view_is : seen_in texts head heads row rows heap ≡ s) where
  pub count_is : length s.machine.heap ≡ length heap
  count_is = ap (λ t. length t.machine.heap) (sym view_is) ∙ length-map heap (object_in texts)

  object_is : (n : ℕ) (o : Object) → slice_get heap n ≡ Some o → slice_get s.machine.heap n ≡ Some (object_in texts o)
  object_is n o e =
      ap (λ t. slice_get t.machine.heap n) (sym view_is) ∙ slice_get-map (object_in texts) heap n ∙ ap (option_map (object_in texts)) e

  heap_is : s.machine.heap ≡ objects_in texts heap
  heap_is = ap (λ t. t.machine.heap) (sym view_is)

  texts_are : s.texts ≡ texts
  texts_are = ap (λ t. t.texts) (sym view_is)

  -- the class of an object
  pub class_is : (n : ℕ) → option_map (λ o. o.class) (slice_get heap n) ≡ option_map (λ o. o.class) (slice_get s.machine.heap n)
  class_is n =
      same_class texts (slice_get heap n) ∙ ap (option_map (λ o. o.class)) (sym (slice_get-map (object_in texts) heap n))
      ∙ ap (λ l. option_map (λ o. o.class) (slice_get l n)) (sym heap_is)

  -- what a field holds
  pub field_is : (n field : ℕ) → option_map (value_in s.texts) (cell_in heap n field) ≡ field_in s.machine.heap n field
  field_is n field =
      ap (λ t. option_map (value_in t) (cell_in heap n field)) texts_are ∙ same_field texts field (slice_get heap n)
      ∙ ap (field_of_object field) (sym (slice_get-map (object_in texts) heap n)) ∙ ap (λ l. field_in l n field) (sym heap_is)

  -- a field of an object holds another value
  pub writes : (heap' : List Object) (n field : ℕ) (cell : Cell) (o o' : Object) → slice_get heap n ≡ Some o → heap' ≡ set heap n o' →
      o'.class ≡ o.class → o'.fields.items ≡ set o.fields.items field cell →
      machine_in texts head heads row rows heap'
      ≡ record s.machine { heap = with_field s.machine.heap n field (value_in s.texts cell) (slice_get s.machine.heap n) }
  writes heap' n field cell o o' e is class fields =
      let after : object_in texts o'
      ≡ record (object_in texts o) { fields = set (values_in texts o.fields.items) field (value_in texts cell) } =
      ap (λ k. record { class = k; fields = values_in texts o'.fields.items }) class
      ∙ ap (λ l. record { class = o.class; fields = l })
      (ap (values_in texts) fields ∙ map-set (value_in texts) o.fields.items field cell) in
      ap (machine_in texts head heads row rows) is
      ∙ ap (λ l. record (machine_in texts head heads row rows heap) { heap = l })
      (map-set (object_in texts) heap n o' ∙ ap (set (objects_in texts heap) n) after)
      ∙ ap (λ r. record (machine_in texts head heads row rows heap) {
        heap =
            with_field (objects_in texts heap) n field (value_in texts cell) r;
      })
      (sym (slice_get-map (object_in texts) heap n ∙ ap (option_map (object_in texts)) e))
      ∙ ap (λ t. record t.machine { heap = with_field t.machine.heap n field (value_in t.texts cell) (slice_get t.machine.heap n) }) view_is

  -- there is no such object
  pub unwritten : (n field : ℕ) (v : Value) → length heap ≤ n →
      s.machine ≡ record s.machine { heap = with_field s.machine.heap n field v (slice_get s.machine.heap n) }
  unwritten n field v le =
      let past : slice_get s.machine.heap n ≡ None = slice_get_past s.machine.heap n (omega (arith, le, count_is)) in
      sym (ap (λ r. record s.machine { heap = with_field s.machine.heap n field v r }) past)

  -- an object more
  pub makes : (heap' : List Object) (o : Object) → heap' ≡ heap ++ o ∷ [] →
      machine_in texts head heads row rows heap'
      ≡ record s.machine { heap = s.machine.heap ++ record { class = o.class; fields = values_in s.texts o.fields.items } ∷ [] }
  makes heap' o is =
      ap (machine_in texts head heads row rows) is
      ∙ ap (λ l. record (machine_in texts head heads row rows heap) { heap = l }) (map_push (object_in texts) heap o)
      ∙ ap (λ t. record t.machine { heap = t.machine.heap ++ record { class = o.class; fields = values_in t.texts o.fields.items } ∷ [] })
      view_is

-- what is kept of an object whose field is set
pub object-set : (count : ℕ) (o o' : Object) (field : ℕ) (cell : Cell) → IsObject count o → IsSet count cell →
    o'.fields.items ≡ set o.fields.items field cell → IsObject count o'
object-set count o o' field cell kept is_set is =
    subst (All (IsSet count)) (sym is) (All-set (IsSet count) o.fields.items field cell is_set kept)

-- what a field holds is a value
module _ (count : ℕ) (heap : List Object) (all : All (IsObject count) heap) (n field : ℕ) where
  field_set : (o : Object) → IsObject count o → (found : Option Cell) → slice_get o.fields.items field ≡ found → IfSome found (IsSet count)
  field_set o is None e = tt
  field_set o is (Some cell) e = at_slice (IsSet count) o.fields.items field cell is e

  object_set : (found : Option Object) → slice_get heap n ≡ found → IfSome (cell_of_object field found) (IsSet count)
  object_set None e = tt
  object_set (Some o) e = field_set o (at_slice (IsObject count) heap n o all e) (slice_get o.fields.items field) refl

  pub cell_set : IfSome (cell_in heap n field) (IsSet count)
  cell_set = object_set (slice_get heap n) refl
