use Rattle.std.proofs.Common.{true, ap, ◌∙◌}
use Rattle.std.proofs.lemmas.Result.{IfOk-weaker}
use Rattle.mg_delivery.specs.Lines.{refusal_lines}
use Rattle.mg_sources.specs.Files.{sources}
use Rattle.mg_accepted.specs.View.{IsProgramOf}
use Rattle.mg_faults.specs.Faults.{AllRefusals}
use Rattle.mg_top.proofs.CommandLemmas.{report_given, faults_said}
use Rattle.mg_top.proofs.check.check_all.Goals as goal

pub show-requires : goal.show-requires
show-requires c =
    let found : IsProgramOf (sources c.args.names.now c.args.contents.now) c.in-Accepted.program
    = rw c.in-Accepted.is at c.in_ok-found.ensures.found in
    found.tables_are

pub returns-in-Accepted : goal.returns-in-Accepted
returns-in-Accepted c =
    let found : IsProgramOf (sources c.args.names.now c.args.contents.now) c.in-Accepted.program
    = rw c.in-Accepted.is at c.in_ok-found.ensures.found in
    IfOk-weaker c.show.result _ _ (λ d k.
    report_given true c.args.names.now c.args.contents.now c.in-Accepted.program.core d found.files_are k) c.show.ensures

pub returns-in_ok-text-in-Refused : goal.returns-in_ok-text-in-Refused
returns-in_ok-text-in-Refused c =
    let found : AllRefusals (sources c.args.names.now c.args.contents.now) c.in-Refused.refusals.items
    = rw c.in-Refused.is at c.in_ok-found.ensures.found in
    faults_said c.args.names.now c.args.contents.now c.in-Refused.refusals.items c.in_ok-text-in-Refused.text c.said.result found
    (c.in_ok-text-in-Refused.ensures ∙ ap (refusal_lines c.args.names.now) c.as_slice.ensures.value) c.said.ensures.actions
    c.said.ensures.status
