use Rattle.std.proofs.Common.{[], ◌∷◌, ◌++◌, map, take, sym, ap, subst, ◌∙◌}
use Rattle.std.proofs.lemmas.List.{take_more, take_all, map-append}
use Rattle.jv_core.specs.View.{class_of}
use Rattle.jv_core.specs.declared.program.CoreClass.{CoreClass}
use Rattle.mg_trace.specs.inner.Tabled.{AreClasses}
use Rattle.mg_trace.proofs.results.Results.of.Goals as goal

pub loop-class-preserved : goal.loop-class-preserved
loop-class-preserved c =
    let classes = c.classes-class-items.result.now in
    let index = c.loop-class.class-index in
    let item : CoreClass = c.class-item.result in
    let next = ap (λ (x : CoreClass). take index classes ++ x ∷ []) (sym c.class-item.is) in
    let more = take_more classes index item c.loop-class-test.true ∙ next in
    subst (λ cs. AreClasses c.args.core.now cs c.add_class.new.by_class)
    (sym (ap (map class_of) more ∙ map-append class_of (take index classes) (item ∷ [])))
    (c.in_ok-add_class.ensures (map class_of (take index classes)) c.loop-class.invariant)

pub returns : goal.returns
returns c =
    let classes = c.classes-class-items.result.now in
    subst (λ cs. AreClasses c.args.core.now cs c.loop-class.by_class)
    (ap (map class_of) (take_all c.loop-class.class-index classes c.loop-class-test.false) ∙ c.classes-class-items.ensures)
    c.loop-class.invariant
