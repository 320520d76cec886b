use Rattle.std.proofs.Common.{sym, subst}
use Rattle.vm_model.specs.View.{classes_of}
use Rattle.vm_model.specs.Linked.{IsLinked}
use Rattle.cls_table.specs.Tables.{AreClasses, AreKinds}
use Rattle.cls_table.proofs.Linking.{classes_known}
use Rattle.cls_table.proofs.Counting.{are_kinds}
use Rattle.cls_table.proofs.classes.ProgramKinds.of.Goals as goal

pub counts-requires : goal.counts-requires
counts-requires c =
    classes_known c.in_ok-names.names c.classes-classes.result.now c.in_ok-names.ensures
    (subst IsLinked (sym c.classes-classes.ensures.classes) c.classes-classes.ensures.linked)

pub classes_kinds-requires-clause-known : goal.classes_kinds-requires-clause-known
classes_kinds-requires-clause-known c =
    classes_known c.in_ok-names.names c.classes-classes.result.now c.in_ok-names.ensures
    (subst IsLinked (sym c.classes-classes.ensures.classes) c.classes-classes.ensures.linked)

pub returns : goal.returns
returns c =
    let names = c.in_ok-names.names in
    let cs = c.classes-classes.result.now in
    subst (λ p. AreKinds p (record { names = names; classes = c.in_ok-classes.classes })) c.classes-classes.ensures.classes
    (are_kinds (classes_of cs) _ c.in_ok-counts.counts.items c.in_ok-names.ensures c.in_ok-counts.ensures.counted
    (subst (λ ks. AreClasses names ks (classes_of cs) c.in_ok-classes.classes.items) c.as_slice.ensures.value c.in_ok-classes.ensures))
