use Rattle.std.proofs.Common.{map}
use Rattle.std.proofs.lemmas.Result.{err_from_is_err_and}
use Rattle.jv_core.specs.View.{class_of}
use Rattle.jv_resolve_law.specs.Members.{class, classes}
use Rattle.jv_resolve.specs.inner.Seen.{entry_seen, tables_seen}
use Rattle.jv_resolve.proofs.Threads.{loop_start, loop_more, loop_fail, loop_done}
use Rattle.jv_resolve.proofs.MemberSteps.{same_classes}
use Rattle.jv_resolve.proofs.classes.resolve_classes.Goals as goal

pub loop-entry-init : goal.loop-entry-init
loop-entry-init c =
    loop_start (class (tables_seen c.args.table.now)) (entry_seen) (class_of) (classes (tables_seen c.args.table.now) c.args.names.now
    (map entry_seen c.args.entries.now)) c.args.names.now c.args.entries.now c.new-resolved.result.items
    (same_classes (tables_seen c.args.table.now) c.args.names.now (map entry_seen c.args.entries.now)) c.new-resolved.ensures

pub loop-entry-preserved : goal.loop-entry-preserved
loop-entry-preserved c =
    loop_more (class (tables_seen c.args.table.now)) (entry_seen) (class_of) (classes (tables_seen c.args.table.now) c.args.names.now
    (map entry_seen c.args.entries.now)) c.loop-entry.resolved.items c.loop-entry.names c.args.entries.now c.loop-entry.entry-index
    c.loop-entry.invariant c.entry-item.result c.loop-entry-test.true c.entry-item.is c.in_ok-one.one c.push.new.self.items
    c.resolve_class.new.names
    (c.in_ok-one.ensures) c.in_ok-push.ensures.ok

pub returns : goal.returns
returns c = loop_done (class (tables_seen c.args.table.now)) (entry_seen) (class_of)
    (classes (tables_seen c.args.table.now) c.args.names.now (map entry_seen c.args.entries.now)) c.loop-entry.resolved.items
    c.loop-entry.names c.args.entries.now c.loop-entry.entry-index c.loop-entry.invariant c.loop-entry-test.false

pub returns-in_err-one : goal.returns-in_err-one
returns-in_err-one c =
    let p = err_from_is_err_and c.from_residual.result c.from_residual.ensures.1 in
    rw (p.1, p.2) (loop_fail (class (tables_seen c.args.table.now)) (entry_seen) (class_of)
    (classes (tables_seen c.args.table.now) c.args.names.now (map entry_seen c.args.entries.now)) c.loop-entry.resolved.items
    c.loop-entry.names c.args.entries.now c.loop-entry.entry-index c.loop-entry.invariant c.entry-item.result c.loop-entry-test.true
    c.entry-item.is c.in_err-one.field-0.0 c.in_err-one.ensures)
