use Rattle.std.proofs.Common.{◌≡◌, ◌+◌, List, [], ◌∷◌, ◌++◌, take, sym, ap, subst, ◌∙◌, arith}
use Rattle.std.proofs.lemmas.List.{take_more, take_all, map-append}
use Rattle.mg_text.specs.Interned.{with_text}
use Rattle.vm_model.specs.declared.linked.LinkedClass.{LinkedClass}
use Rattle.vm_model.specs.Program.{Program}
use Rattle.vm_model.specs.View.{class_of, classes_of}
use Rattle.cls_table.specs.Known.{KnowsNames, IsKnown}
use Rattle.cls_table.proofs.Knowing.{no_classes, one_class}
use Rattle.cls_table.proofs.names.class_names.Goals as goal

pub loop-class-init : goal.loop-class-init
loop-class-init c = no_classes c.add_built_in.new.names c.in_ok-add_built_in.ensures.are c.in_ok-add_built_in.ensures.known

pub loop-class-preserved : goal.loop-class-preserved
loop-class-preserved c =
    let classes = c.args.classes.now in
    let item : LinkedClass = c.class-item.result in
    let more = take_more classes c.loop-class.class-index item c.loop-class-test.true
    ∙ ap (λ (x : LinkedClass). take c.loop-class.class-index classes ++ x ∷ []) (sym c.class-item.is) in
    let names = c.loop-class.names in
    let added : c.add_name.new.names ≡ with_text names item.name = c.in_ok-add_name.ensures.added ∙ ap (with_text names) c.as_str.ensures in
    let known : IsKnown c.add_name.new.names item.name =
    subst (IsKnown c.add_name.new.names) c.as_str.ensures c.in_ok-add_name.ensures.known in
    subst (λ ns. KnowsNames ns (classes_of (take (c.loop-class.class-index + 1) classes))) (sym added)
    (subst (λ (p : Program). KnowsNames (with_text names item.name) p)
    (sym (ap (λ (cs : List LinkedClass). classes_of cs) more ∙ map-append class_of (take c.loop-class.class-index classes) (item ∷ [])))
    (one_class names (classes_of (take c.loop-class.class-index classes)) (class_of item) c.loop-class.invariant
    (subst (λ ns. IsKnown ns item.name) added known)))

pub returns : goal.returns
returns c = subst (λ cs. KnowsNames c.loop-class.names (classes_of cs)) (take_all c.loop-class.class-index c.args.classes.now
    (omega (arith, c.loop-class-test.false))) c.loop-class.invariant
