use Rattle.std.proofs.Common.{sym, ◌∙◌}
use Rattle.mg_sources.specs.Files.{sources}
use Rattle.mg_faults.proofs.Reading.{all_alone, all_refused, nothing_left, something_left}
use Rattle.mg_faults.proofs.judged.all_of.Goals as goal

pub returns-then-not-is_empty : goal.returns-then-not-is_empty
returns-then-not-is_empty c =
    all_refused (sources c.args.names.now c.args.contents.now) c.in_ok-refusals.refusals.items c.in_ok-refusals.ensures
    (λ nil. something_left c.as_slice.result.now c.is_empty.result c.is_empty.ensures c.if-not-is_empty.true (c.as_slice.ensures.value ∙ nil))

pub returns : goal.returns
returns c =
    all_alone (sources c.args.names.now c.args.contents.now) c.in_ok-refusals.refusals.items c.push.new.self.items c.args.first
    c.in_ok-refusals.ensures
    (sym c.as_slice.ensures.value ∙ nothing_left c.as_slice.result.now c.is_empty.result c.is_empty.ensures c.if-not-is_empty.false)
    c.in_ok-push.ensures.items c.requires.first
