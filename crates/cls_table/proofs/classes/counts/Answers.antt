use Rattle.std.proofs.lemmas.Grind.{common_steps}
use Rattle.std.proofs.Common.{◌≡◌, ℕ, ◌+◌, List, [], ◌∷◌, ◌++◌, Some, length, take, get_or, position, sym, ap, subst, ◌∙◌, arith}
use Rattle.std.specs.Str.{bytes_eq}
use Rattle.std.proofs.lemmas.List.{take_more, take_all, map-append}
use Rattle.vm_model.specs.declared.linked.LinkedClass.{LinkedClass}
use Rattle.vm_model.specs.Program.{Program}
use Rattle.vm_model.specs.View.{class_of, classes_of}
use Rattle.cls_table.specs.Known.{IsKnown, KnowsClass}
use Rattle.cls_table.specs.Counted.{IsCount, AreCounted}
use Rattle.cls_table.proofs.Counting.{count_more, written}
use Rattle.cls_table.proofs.classes.counts.Goals as goal

pub number_of-number-requires : goal.number_of-number-requires
number_of-number-requires c =
    subst (IsKnown c.args.names.now) (sym c.as_str.ensures)
    (subst (KnowsClass c.args.names.now) (sym c.class-item.is)
    (c.requires c.loop-class.class-index c.class-item.result c.loop-class-test.true)).name

pub loop-class-preserved : goal.loop-class-preserved
loop-class-preserved c =
    let classes = c.args.classes.now in
    let names = c.args.names.now in
    let index = c.loop-class.class-index in
    let item : LinkedClass = c.class-item.result in
    let old = c.loop-class.counts.items in
    let new = c.count_one.new.counts in
    let number = c.number_of-number.result in
    let more = take_more classes index item c.loop-class-test.true ∙ ap (λ (x : LinkedClass). take index classes ++ x ∷ [])
    (sym c.class-item.is) in
    let many : length new ≡ length old = c.count_one.ensures.many ∙ ap length c.as_mut_slice.ensures.value in
    let whole = written c.loop-class.counts.len new old many c.loop-class.counts.ok.0 in
    let found : position (bytes_eq item.name) names ≡ Some number =
    subst (λ n. position (bytes_eq n) names ≡ Some number) c.as_str.ensures c.number_of-number.ensures.found in
    let counted : (t : ℕ) → IsCount t (get_or old number 0) → IsCount (t + 1) (get_or new number 0) =
    subst (λ xs. (t : ℕ) → IsCount t (get_or xs number 0) → IsCount (t + 1) (get_or new number 0)) c.as_mut_slice.ensures.value
    c.count_one.ensures.counted in
    let others : (other : ℕ) → (other ≡ number → ⊥) → get_or new other 0 ≡ get_or old other 0 =
    subst (λ xs. (other : ℕ) → (other ≡ number → ⊥) → get_or new other 0 ≡ get_or xs other 0) c.as_mut_slice.ensures.value
    c.count_one.ensures.others in (
      ap length whole ∙ many ∙ c.loop-class.invariant.0,
      subst (AreCounted names (classes_of (take (index + 1) classes))) (sym whole)
          (subst (λ (p : Program). AreCounted names p new)
          (sym (ap (λ (cs : List LinkedClass). classes_of cs) more ∙ map-append class_of (take index classes) (item ∷ [])))
          (count_more names (classes_of (take index classes)) (class_of item) old new number c.loop-class.invariant.1 found counted
          others)),
    )

pub returns-clause-counted : goal.returns-clause-counted
returns-clause-counted c = subst (λ cs. AreCounted c.args.names.now (classes_of cs) c.loop-class.counts.items)
    (take_all c.loop-class.class-index c.args.classes.now (omega (arith, c.loop-class-test.false))) c.loop-class.invariant.1

pub loop-class-init : goal.loop-class-init
loop-class-init c = grind (arith, common_steps)
