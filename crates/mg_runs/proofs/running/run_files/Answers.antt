use Rattle.std.proofs.Common.{List, map, sym, ap, ap₂, subst, ◌∙◌}
use Rattle.mg_text.specs.Call.{Name}
use Rattle.mg_compile.specs.declared.files.ClassFile.{ClassFile}
use Rattle.mg_compile.specs.Files.{AreClassFiles}
use Rattle.vm_world_law.specs.declared.role.RoleEvent.{RoleEvent}
use Rattle.mg_runs.specs.Runs.{IsLoaded, messages_in}
use Rattle.mg_runs.specs.inner.Going.{IsRunOf, told}
use Rattle.mg_runs.proofs.Sound.{have_mains}
use Rattle.mg_runs.proofs.Shown.{gone_shown}
use Rattle.mg_runs.proofs.running.run_files.Goals as goal

pub load_back-requires-clause-made : goal.load_back-requires-clause-made
load_back-requires-clause-made c = subst (AreClassFiles c.args.core.now) (sym c.as_slice.ensures.items) c.requires.made

pub go-requires-clause-mains : goal.go-requires-clause-mains
go-requires-clause-mains c =
    let (sources, have) = c.requires.files in
    let program = c.in_ok-linked.linked in
    let loaded = subst (λ (z : List ClassFile). IsLoaded (map (λ f. f.bytes) z) program) c.as_slice.ensures.items c.in_ok-linked.ensures in
    have_mains c.runs_are_meant.ensures sources c.args.core.now c.args.files.items have c.requires.made program loaded
    c.args.mains.now
    c.requires.mains

pub go-requires-clause-typable : goal.go-requires-clause-typable
go-requires-clause-typable c = λ _.
    let (sources, have) = c.requires.files in
    c.loaded_classes_are_typable.ensures sources c.args.core.now c.args.files.items have c.requires.made c.in_ok-linked.linked
    (subst (λ (z : List ClassFile). IsLoaded (map (λ f. f.bytes) z) c.in_ok-linked.linked) c.as_slice.ensures.items
    c.in_ok-linked.ensures)

pub returns-in-Ok : goal.returns-in-Ok
returns-in-Ok c =
    let events = c.events-events.ensures in
    let loaded = subst (λ (z : List ClassFile). IsLoaded (map (λ f. f.bytes) z) c.in_ok-linked.linked) c.as_slice.ensures.items
    c.in_ok-linked.ensures in
    subst (IsRunOf c.args.core.now c.args.files.items c.args.mains.now c.args.order.now c.args.limit c.args.named c.args.traced)
    (sym c.ran_of.ensures)
    (gone_shown c.args.core.now c.args.files c.args.mains.now c.args.order.now c.args.limit c.args.named c.args.traced
    c.in_ok-linked.linked c.in_ok-gone.gone c.in-Ok.trace c.messages_in-messages.result loaded c.in_ok-gone.ensures
    (c.in-Ok.ensures
    ∙ ap₂ (λ (names : List Name) (seen : List RoleEvent). told c.args.core.now names seen c.args.traced) c.as_slice-2.ensures.items events)
    (c.messages_in-messages.ensures ∙ ap messages_in events))
