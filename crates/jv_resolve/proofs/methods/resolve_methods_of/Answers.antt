use Rattle.std.proofs.Common.{map, ap}
use Rattle.std.proofs.lemmas.Result.{err_from_is_err_and}
use Rattle.jv_tree.specs.View.{method_of as source_method}
use Rattle.jv_core.specs.View.{method_of}
use Rattle.jv_resolve_law.specs.Members.{method, methods_of}
use Rattle.jv_resolve.specs.inner.Seen.{entry_seen, tables_seen}
use Rattle.jv_resolve.specs.inner.Naming.{with_done}
use Rattle.jv_resolve.proofs.Threads.{loop_more, loop_fail, loop_done}
use Rattle.jv_resolve.proofs.MethodSteps.{same_methods_of}
use Rattle.jv_resolve.proofs.methods.resolve_methods_of.Goals as goal

pub loop-method-init : goal.loop-method-init
loop-method-init c = ap (with_done (map method_of c.args.resolved.now.items)) (same_methods_of (tables_seen c.args.table.now)
    (entry_seen c.args.entry.now) c.args.names (map source_method c.args.methods.now))

pub loop-method-preserved : goal.loop-method-preserved
loop-method-preserved c =
    loop_more (λ ns m. method (tables_seen c.args.table.now) ns (entry_seen c.args.entry.now) m) source_method method_of
    (with_done (map method_of c.args.resolved.now.items) (methods_of (tables_seen c.args.table.now) c.args.names
    (entry_seen c.args.entry.now) (map source_method c.args.methods.now))) c.loop-method.resolved.items c.loop-method.known
    c.args.methods.now c.loop-method.method-index c.loop-method.invariant c.method-item.result c.loop-method-test.true c.method-item.is
    c.in_ok-one.one.method c.push.new.self.items c.in_ok-one.one.names
    c.in_ok-one.ensures c.in_ok-push.ensures.ok

pub returns-in_err-one : goal.returns-in_err-one
returns-in_err-one c =
    let p = err_from_is_err_and c.from_residual.result c.from_residual.ensures.1 in
    rw (p.1, p.2) (loop_fail (λ ns m. method (tables_seen c.args.table.now) ns (entry_seen c.args.entry.now) m) source_method method_of
    (with_done (map method_of c.args.resolved.now.items) (methods_of (tables_seen c.args.table.now) c.args.names
    (entry_seen c.args.entry.now) (map source_method c.args.methods.now))) c.loop-method.resolved.items c.loop-method.known
    c.args.methods.now c.loop-method.method-index c.loop-method.invariant c.method-item.result c.loop-method-test.true c.method-item.is
    c.in_err-one.field-0.0 c.in_err-one.ensures)

pub returns : goal.returns
returns c = loop_done (λ ns m. method (tables_seen c.args.table.now) ns (entry_seen c.args.entry.now) m) source_method method_of
    (with_done (map method_of c.args.resolved.now.items) (methods_of (tables_seen c.args.table.now) c.args.names
    (entry_seen c.args.entry.now) (map source_method c.args.methods.now))) c.loop-method.resolved.items c.loop-method.known
    c.args.methods.now c.loop-method.method-index c.loop-method.invariant c.loop-method-test.false
