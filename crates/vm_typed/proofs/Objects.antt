-- Fields that are read and written: what is known of the object, and that the step is taken.
use Rattle.std.proofs.Common.{◌≡◌, ℕ, ◌≤◌, List, [], ◌∷◌, ◌++◌, length, true, Option, Some, None, refl, sym, ap, ◌∙◌, subst}
use Rattle.std.specs.Prelude.{slice_get}
use Rattle.mg_text.specs.declared.event.BadKind.TheVariants as bad
use Rattle.vm_model.specs.declared.value.Value.{Value}
use Rattle.vm_model.specs.declared.value.Value.TheVariants as values
use Rattle.vm_model.specs.Program.{Program}
use Rattle.vm_model.specs.Messages.{Messages}
use Rattle.vm_model.specs.Machine.{Machine, Object, Went}
use Rattle.vm_model.specs.Actions.{Read, Write}
use Rattle.vm_model.specs.Tests.{below, on_top}
use Rattle.vm_model.specs.Step.{broken, goes, next, reads, reads_object, writes, writes_object}
use Rattle.vm_frames.specs.Frames.{field_in, field_of_object, with_field}
use Rattle.vm_session.specs.inner.Tops.{at_top}
use Rattle.cls_verify.specs.Sound.{IsWell}
use Rattle.vm_typed.specs.Alone.{StepsWithin}
use Rattle.vm_typed.specs.Next.{IsNext}
use Rattle.vm_typed.proofs.Tops.{top_one, top_two}
use Rattle.vm_typed.proofs.Next.{nobody, is_right, is_well, steps_to}

module _ (p : Program) (q : Messages) (m : Machine) (rest : List Value) where
  held_of : (w : Option Value) → IsWell p (elim w [ None ↦ broken bad.Member | Some v ↦ goes q (next m (rest ++ v ∷ [])) ]) →
      (v : Value) × (w ≡ Some v)
  held_of None h = absurd h
  held_of (Some v) h = (v, refl)

  field_of : (field : ℕ) (o : Option Object) → IsWell p (reads_object q m rest field o) → (v : Value) × (field_of_object field o ≡ Some v)
  field_of field None h = absurd h
  field_of field (Some o) h = held_of (slice_get o.fields field) h

  reads_at : (field : ℕ) (o : Option Object) (v : Value) → Some v ≡ field_of_object field o →
      reads_object q m rest field o ≡ goes q (next m (rest ++ v ∷ []))
  reads_at field None v e = absurd (cc e)
  reads_at field (Some o) v e =
      ap (λ (w : Option Value). elim w [ None ↦ broken bad.Member | Some v ↦ goes q (next m (rest ++ v ∷ [])) ]) (sym e)

  writes_at : (n field : ℕ) (v : Value) (o : Option Object) → IsWell p (writes_object q m rest n field v o) →
      writes_object q m rest n field v o ≡ goes q (next (record m { heap = with_field m.heap n field v o }) rest)
  writes_at n field v None h = absurd h
  writes_at n field v (Some o) h = refl

module _ (p : Program) (m : Machine) (class field : ℕ) where
  pub read_some : IsNext p m (Read class field) → 1 ≤ length m.frame.operands
  read_some n = (is_right p m (Read class field) n).enough

  pub read_field : (object : ℕ) → IsNext p m (Read class field) → at_top m.frame.operands 0 ≡ Some (values.Object object) →
      (v : Value) × (field_in m.heap object field ≡ Some v)
  read_field object n top = field_of p nobody m (below 1 m.frame.operands) field (slice_get m.heap object)
      (subst (λ l. IsWell p (reads nobody m field (below 1 m.frame.operands) l))
      (top_one m.frame.operands (values.Object object) (read_some n) top) (is_well p m (Read class field) n 0 nobody))

  pub write_some : IsNext p m (Write class field) → 2 ≤ length m.frame.operands
  write_some n = (is_right p m (Write class field) n).enough

module _ (p : Program) (m m' : Machine) (class field object : ℕ) (v : Value) where
  pub reads_to : IsNext p m (Read class field) → at_top m.frame.operands 0 ≡ Some (values.Object object) →
      Some v ≡ field_in m.heap object field → m' ≡ next m (below 1 m.frame.operands ++ v ∷ []) → StepsWithin p m m' true
  reads_to n top holds is = steps_to p m (Read class field) n m'
      (ap (λ (k : Machine). k.frame.class) is, ap (λ (k : Machine). k.frame.method) is)
      (λ me q. ap (reads q m field (below 1 m.frame.operands))
      (top_one m.frame.operands (values.Object object) (read_some p m class field n) top)
      ∙ reads_at p q m (below 1 m.frame.operands) field (slice_get m.heap object) v holds ∙ ap (λ k. Went k q None) (sym is))

  pub writes_to : IsNext p m (Write class field) → at_top m.frame.operands 1 ≡ Some (values.Object object) →
      at_top m.frame.operands 0 ≡ Some v →
      m' ≡ next (record m { heap = with_field m.heap object field v (slice_get m.heap object) }) (below 2 m.frame.operands) →
      StepsWithin p m m' true
  writes_to n first second is = steps_to p m (Write class field) n m'
      (ap (λ (k : Machine). k.frame.class) is, ap (λ (k : Machine). k.frame.method) is)
      (λ me q.
      let tops : on_top 2 m.frame.operands ≡ values.Object object ∷ v ∷ [] =
      top_two m.frame.operands (values.Object object) v (write_some p m class field n) first second in
      ap (writes q m field (below 2 m.frame.operands)) tops
      ∙ writes_at p q m (below 2 m.frame.operands) object field v (slice_get m.heap object)
      (subst (λ l. IsWell p (writes q m field (below 2 m.frame.operands) l)) tops (is_well p m (Write class field) n me q))
      ∙ ap (λ k. Went k q None) (sym is))
