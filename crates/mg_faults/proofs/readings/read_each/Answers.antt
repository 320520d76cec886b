use Rattle.std.proofs.Common.{arith, refl, sym, subst, [], None, Some}
use Rattle.mg_sources.specs.Files.{source_of, sources}
use Rattle.mg_sources.proofs.Endings.{kind_at}
use Rattle.mg_sources.proofs.PartLemmas.{source_is, source_within, sources_length}
use Rattle.mg_faults.specs.Faults.{AreRefused, none}
use Rattle.mg_faults.proofs.Reading.{file_found, files_found}
use Rattle.mg_faults.proofs.readings.read_each.Goals as goal

pub loop-number-init : goal.loop-number-init
loop-number-init c = subst (AreRefused []) (sym c.new-refusals.ensures.items) none

pub refused-requires : goal.refused-requires
refused-requires c =
    kind_at c.args.names.now c.loop-number.number c.index-names-number.result c.as_slice.result.now (omega (arith, c.requires.same))
    c.index-names-number.is c.requires.kinds

pub loop-number-preserved-in_default : goal.loop-number-preserved-in_default
loop-number-preserved-in_default c =
    file_found (sources c.args.names.now c.args.contents.now) c.loop-number.number c.loop-number.refusals.items c.loop-number.invariant
    (source_of c.loop-number.number c.index-names-number.result c.as_slice.result.now) None c.in_ok-found.found
    c.loop-number.refusals.items
    (source_within c.args.names.now c.args.contents.now c.loop-number.number c.requires.same c.loop-number-test.true)
    (source_is c.args.names.now c.args.contents.now c.loop-number.number c.index-names-number.result c.index-contents-number.result
    c.as_slice.result.now c.requires.same c.loop-number-test.true c.index-names-number.is c.index-contents-number.is c.as_slice.ensures)
    c.in_ok-found.ensures c.in_default.is refl

pub loop-number-preserved : goal.loop-number-preserved
loop-number-preserved c =
    file_found (sources c.args.names.now c.args.contents.now) c.loop-number.number c.loop-number.refusals.items c.loop-number.invariant
    (source_of c.loop-number.number c.index-names-number.result c.as_slice.result.now) (Some c.in-Some.refusal) c.in_ok-found.found
    c.push.new.self.items
    (source_within c.args.names.now c.args.contents.now c.loop-number.number c.requires.same c.loop-number-test.true)
    (source_is c.args.names.now c.args.contents.now c.loop-number.number c.index-names-number.result c.index-contents-number.result
    c.as_slice.result.now c.requires.same c.loop-number-test.true c.index-names-number.is c.index-contents-number.is c.as_slice.ensures)
    c.in_ok-found.ensures c.in-Some.is c.in_ok-push.ensures.items

pub returns : goal.returns
returns c =
    let count = sources_length 0 c.args.names.now c.args.contents.now c.requires.same in
    files_found (sources c.args.names.now c.args.contents.now) c.loop-number.number c.loop-number.refusals.items c.loop-number.invariant
    (omega (arith, count))
