use Rattle.std.proofs.Common.{List, [], ◌∷◌, ◌++◌, map, take, sym, ap, subst, ◌∙◌}
use Rattle.std.proofs.lemmas.List.{take_more, take_all, map-append}
use Rattle.vm_model.specs.declared.linked.LinkedMethod.{LinkedMethod}
use Rattle.vm_model.specs.Program.{MethodOf}
use Rattle.vm_model.specs.View.{method_of}
use Rattle.cls_table.specs.Known.{KnowsMethod}
use Rattle.cls_table.specs.Tables.{AreMethods}
use Rattle.cls_table.proofs.Tabled.{more_methods}
use Rattle.cls_table.proofs.classes.methods_kinds.Goals as goal

pub method_kinds-requires : goal.method_kinds-requires
method_kinds-requires c =
    subst (KnowsMethod c.args.names.now) (sym c.method-item.is)
    (c.requires c.loop-method.method-index c.method-item.result c.loop-method-test.true)

pub loop-method-preserved : goal.loop-method-preserved
loop-method-preserved c class e =
    let methods = c.args.methods.now in
    let item : LinkedMethod = c.method-item.result in
    let more = take_more methods c.loop-method.method-index item c.loop-method-test.true
    ∙ ap (λ (x : LinkedMethod). take c.loop-method.method-index methods ++ x ∷ []) (sym c.method-item.is) in
    subst (λ (ms : List MethodOf). AreMethods c.args.names.now class ms c.push.new.self.items)
    (sym (ap (λ (ms : List LinkedMethod). map method_of ms) more ∙ map-append method_of (take c.loop-method.method-index methods)
    (item ∷ [])))
    (subst (AreMethods c.args.names.now class (map method_of (take c.loop-method.method-index methods) ++ method_of item ∷ []))
    (sym c.in_ok-push.ensures.items)
    (more_methods c.args.names.now class (map method_of (take c.loop-method.method-index methods)) c.loop-method.kinds.items
    (method_of item)
    c.in_ok-method.method (c.loop-method.invariant class e) (c.in_ok-method.ensures class e)))

pub returns : goal.returns
returns c class e =
    subst (λ (ms : List LinkedMethod). AreMethods c.args.names.now class (map method_of ms) c.loop-method.kinds.items)
    (take_all c.loop-method.method-index c.args.methods.now c.loop-method-test.false) (c.loop-method.invariant class e)
