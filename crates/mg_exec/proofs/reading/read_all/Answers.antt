use Rattle.std.proofs.Common.{ℕ, List, [], get_or, Result, Err, sym, ap, ◌∙◌, subst, arith, ◌+◌}
use Rattle.std.proofs.lemmas.Result.{err_from_is_err_and}
use Rattle.mg_text.specs.Row.{Row}
use Rattle.cls_tree.specs.declared.class.Class.{Class}
use Rattle.mg_refusal.specs.declared.stop.Stop.{Stop}
use Rattle.mg_sources.specs.Files.{source_of, sources}
use Rattle.mg_sources.proofs.PartLemmas.{source_is, source_within, sources_length, same_at}
use Rattle.mg_exec.proofs.FilesRead.{ReadSoFar, read_start, read_more, read_stopped, read_end}
use Rattle.mg_exec.proofs.reading.read_all.Goals as goal

abbrev failed : Stop → Result (Row Class) Stop
failed f = Err f

pub loop-number-init : goal.loop-number-init
loop-number-init c = λ names same.
    subst (ReadSoFar (sources names c.args.contents.now) 0) (sym c.new-classes.ensures) (read_start (sources names c.args.contents.now))

pub returns-in_err-class : goal.returns-in_err-class
returns-in_err-class c = λ names same.
    let e = err_from_is_err_and c.from_residual.result c.from_residual.ensures.1 in
    let name : List ℕ = get_or names c.loop-number.number [] in
    let named = same_at names c.loop-number.number [] name (omega (arith, same, c.loop-number-test.true)) in
    read_stopped (c.loop-number.invariant names same) (source_of c.loop-number.number name c.as_slice.result.now)
    (source_within names c.args.contents.now c.loop-number.number same c.loop-number-test.true)
    (source_is names c.args.contents.now c.loop-number.number name c.index-contents-number.result c.as_slice.result.now
    same c.loop-number-test.true named c.index-contents-number.is c.as_slice.ensures)
    c.in_err-class.field-0.0 (c.in_err-class.ensures name) c.from_residual.result (e.1 ∙ ap failed e.2)

pub loop-number-preserved : goal.loop-number-preserved
loop-number-preserved c = λ names same.
    let name : List ℕ = get_or names c.loop-number.number [] in
    let named = same_at names c.loop-number.number [] name (omega (arith, same, c.loop-number-test.true)) in
    subst (ReadSoFar (sources names c.args.contents.now) (c.loop-number.number + 1)) (sym c.in_ok-push.ensures.ok)
    (read_more (c.loop-number.invariant names same) (source_of c.loop-number.number name c.as_slice.result.now)
    (source_within names c.args.contents.now c.loop-number.number same c.loop-number-test.true)
    (source_is names c.args.contents.now c.loop-number.number name c.index-contents-number.result c.as_slice.result.now
    same c.loop-number-test.true named c.index-contents-number.is c.as_slice.ensures)
    c.in_ok-class.class (c.in_ok-class.ensures name))

pub returns : goal.returns
returns c = λ names same.
    let count = sources_length 0 names c.args.contents.now same in
    read_end (c.loop-number.invariant names same) (omega (arith, count))
