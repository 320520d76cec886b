use Rattle.std.proofs.lemmas.Result.{IfOk-weaker}
use Rattle.mg_sources.specs.Files.{sources}
use Rattle.mg_faults.proofs.judged.found.Goals as goal

pub returns-in-Ok : goal.returns-in-Ok
returns-in-Ok c =
    IfOk-weaker c.by_usages.result _ _ (λ f h. h (sources c.args.names.now c.args.contents.now) c.in-Ok.ensures.answered)
    c.by_usages.ensures

pub all_of-requires-clause-first : goal.all_of-requires-clause-first
all_of-requires-clause-first c = rw c.in-Err-Refused.field-0-is at c.in-Err-Refused.ensures.answered
