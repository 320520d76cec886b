use Rattle.mg_sources.specs.Files.{sources}
use Rattle.mg_projected.proofs.Telling.{only_those, refused_unwritten, answer_of_one}
use Rattle.mg_projected.proofs.told.project.Goals as goal

pub returns-clause-answered : goal.returns-clause-answered
returns-clause-answered c = λ names one.
    answer_of_one names c.args.contents.now _ c.as_slice.result.now c.written_of.result one c.requires.one c.index-contents-0.is
    c.as_slice.ensures
    c.written_of.ensures

pub returns-clause-only : goal.returns-clause-only
returns-clause-only c = λ names one.
    only_those (sources names c.args.contents.now) c.written_of.result
    (answer_of_one names c.args.contents.now _ c.as_slice.result.now c.written_of.result one c.requires.one c.index-contents-0.is
    c.as_slice.ensures
    c.written_of.ensures)

pub returns-clause-refused : goal.returns-clause-refused
returns-clause-refused c = λ names one.
    refused_unwritten (sources names c.args.contents.now) c.written_of.result
    (answer_of_one names c.args.contents.now _ c.as_slice.result.now c.written_of.result one c.requires.one c.index-contents-0.is
    c.as_slice.ensures
    c.written_of.ensures)
