use Rattle.std.proofs.Common.{◌+◌, map, drop, sym, ap, ◌∙◌}
use Rattle.std.proofs.lemmas.Result.{err_from_is_err_and}
use Rattle.jv_tree.specs.View.{method_of as source_method}
use Rattle.jv_resolve_law.specs.Members.{methods, methods_of}
use Rattle.jv_core.specs.View.{method_of}
use Rattle.jv_resolve.specs.inner.Naming.{with_done}
use Rattle.jv_resolve.specs.inner.Seen.{entry_seen, tables_seen}
use Rattle.jv_resolve.proofs.AtIndex.{drop_at, drop_end}
use Rattle.jv_resolve.proofs.Chains.{fails_as}
use Rattle.jv_resolve.proofs.MethodSteps.{classes_start, classes_more, classes_fail, classes_done}
use Rattle.jv_resolve.proofs.methods.resolve_methods.Goals as goal

pub loop-entry-init : goal.loop-entry-init
loop-entry-init c = classes_start (methods (tables_seen c.args.table.now) c.args.names (map entry_seen c.args.entries.now)) ∙
    ap (λ d. with_done (map method_of d) (methods (tables_seen c.args.table.now) c.args.names (map entry_seen c.args.entries.now)))
    (sym c.new-methods.ensures)

pub loop-entry-preserved : goal.loop-entry-preserved
loop-entry-preserved c =
    classes_more (tables_seen c.args.table.now) (methods (tables_seen c.args.table.now) c.args.names (map entry_seen c.args.entries.now))
    (map method_of c.loop-entry.methods.items) c.loop-entry.known (map entry_seen (drop c.loop-entry.entry-index c.args.entries.now))
    c.loop-entry.invariant (entry_seen c.entry-item.result) (map entry_seen (drop (c.loop-entry.entry-index + 1) c.args.entries.now))
    (ap (map entry_seen) (drop_at c.args.entries.now c.loop-entry.entry-index c.entry-item.result c.loop-entry-test.true
    c.entry-item.is))
    (map method_of c.resolve_methods_of.new.resolved.items) c.in_ok-after.after
    (ap (λ ms. with_done (map method_of c.loop-entry.methods.items) (methods_of (tables_seen c.args.table.now) c.loop-entry.known
    (entry_seen c.entry-item.result) (map source_method ms))) (sym c.as_slice-written.ensures.items) ∙ c.in_ok-after.ensures)

pub returns-in_err-after : goal.returns-in_err-after
returns-in_err-after c =
    let p = err_from_is_err_and c.from_residual.result c.from_residual.ensures.1 in
    rw (p.1, p.2) (classes_fail (tables_seen c.args.table.now) (methods (tables_seen c.args.table.now) c.args.names
    (map entry_seen c.args.entries.now)) (map method_of c.loop-entry.methods.items) c.loop-entry.known
    (map entry_seen (drop c.loop-entry.entry-index c.args.entries.now)) c.loop-entry.invariant (entry_seen c.entry-item.result)
    (map entry_seen (drop (c.loop-entry.entry-index + 1) c.args.entries.now))
    (ap (map entry_seen) (drop_at c.args.entries.now c.loop-entry.entry-index c.entry-item.result c.loop-entry-test.true
    c.entry-item.is)) c.in_err-after.field-0.0
    (fails_as c.in_err-after.field-0.0 _ _
    (ap (λ ms. with_done (map method_of c.loop-entry.methods.items) (methods_of (tables_seen c.args.table.now) c.loop-entry.known
    (entry_seen c.entry-item.result) (map source_method ms))) (sym c.as_slice-written.ensures.items)) c.in_err-after.ensures))

pub returns : goal.returns
returns c = classes_done (tables_seen c.args.table.now) (methods (tables_seen c.args.table.now) c.args.names
    (map entry_seen c.args.entries.now)) (map method_of c.loop-entry.methods.items) c.loop-entry.known
    (map entry_seen (drop c.loop-entry.entry-index c.args.entries.now)) c.loop-entry.invariant
    (ap (map entry_seen) (drop_end c.args.entries.now c.loop-entry.entry-index c.loop-entry-test.false))
