use Rattle.std.proofs.Common.{List, length, subst, ◌∙◌}
use Rattle.std.proofs.lemmas.Result.{IfOk-weaker}
use Rattle.mg_refusal.specs.Refusals.{Refusal}
use Rattle.mg_sources.specs.Files.{sources}
use Rattle.lsp_notes.specs.Told.{AreTold}
use Rattle.lsp_faults.specs.inner.Findings.{refusals_in}
use Rattle.lsp_faults.proofs.Judging.{all_found, none_found, none_told}
use Rattle.lsp_faults.proofs.diagnosed.diagnose.Goals as goal

pub returns-clause-diagnosed : goal.returns-clause-diagnosed
returns-clause-diagnosed c =
    IfOk-weaker c.told_by_file.result _ _ (λ v told. record {
      refusals = refusals_in c.in_ok-finding.finding;
      are = all_found (sources c.args.names.now c.args.contents.now) c.in_ok-finding.finding c.in_ok-finding.ensures.found;
      told = subst (λ (rs : List Refusal). AreTold c.args.encoding rs c.args.contents.now v.items) c.refusals_in.ensures told;
    }) c.told_by_file.ensures

pub returns-clause-none : goal.returns-clause-none
returns-clause-none c = λ core accepted.
    IfOk-weaker c.told_by_file.result _ _ (λ v told. none_told c.args.encoding (length c.args.contents.now) 0 c.args.contents.now v.items
    (subst (λ (rs : List Refusal). AreTold c.args.encoding rs c.args.contents.now v.items)
    (c.refusals_in.ensures ∙ none_found core c.in_ok-finding.finding (c.in_ok-finding.ensures.only core accepted)) told))
    c.told_by_file.ensures
