use Rattle.std.proofs.Common.{List, [], ◌∷◌, ◌++◌, take, sym, ap, subst, ◌∙◌}
use Rattle.std.proofs.lemmas.List.{take_more, take_all, map-append}
use Rattle.vm_model.specs.declared.linked.LinkedClass.{LinkedClass}
use Rattle.vm_model.specs.Program.{ClassOf}
use Rattle.vm_model.specs.View.{class_of, classes_of}
use Rattle.cls_table.specs.Known.{KnowsClass}
use Rattle.cls_table.specs.Tables.{AreClasses}
use Rattle.cls_table.proofs.Counting.{classes_more}
use Rattle.cls_table.proofs.classes.classes_kinds.Goals as goal

pub class_kinds-requires-clause-known : goal.class_kinds-requires-clause-known
class_kinds-requires-clause-known c =
    subst (KnowsClass c.args.names.now) (sym c.class-item.is)
    (c.requires.known c.loop-class.class-index c.class-item.result c.loop-class-test.true)

pub loop-class-preserved : goal.loop-class-preserved
loop-class-preserved c =
    let classes = c.args.classes.now in
    let names = c.args.names.now in
    let counts = c.args.counts.now in
    let item : LinkedClass = c.class-item.result in
    let more = take_more classes c.loop-class.class-index item c.loop-class-test.true
    ∙ ap (λ (x : LinkedClass). take c.loop-class.class-index classes ++ x ∷ []) (sym c.class-item.is) in
    subst (λ (cs : List ClassOf). AreClasses names counts cs c.push.new.self.items)
    (sym (ap (λ (cs : List LinkedClass). classes_of cs) more ∙ map-append class_of (take c.loop-class.class-index classes) (item ∷ [])))
    (subst (AreClasses names counts (classes_of (take c.loop-class.class-index classes) ++ class_of item ∷ []))
    (sym c.in_ok-push.ensures.items)
    (classes_more names counts (classes_of (take c.loop-class.class-index classes)) c.loop-class.kinds.items (class_of item)
    c.in_ok-class.class c.loop-class.invariant c.in_ok-class.ensures.is c.in_ok-class.ensures.own))

pub returns : goal.returns
returns c =
    subst (λ (cs : List LinkedClass). AreClasses c.args.names.now c.args.counts.now (classes_of cs) c.loop-class.kinds.items)
    (take_all c.loop-class.class-index c.args.classes.now c.loop-class-test.false) c.loop-class.invariant
