use Rattle.std.proofs.Common.{◌≡◌, ◌++◌, List, ℕ, ap, ◌∙◌}
use Rattle.mg_sets.specs.Sets.{members}
use Rattle.use_rules.specs.declared.key.Context.{Context}
use Rattle.use_rules.specs.Keys.{contexts_in}
use Rattle.use_flow.specs.View.{reached_of, tables_of}
use Rattle.use_check.specs.Report.{Usages, class_lines, context_lines, in_order, report_text}
use Rattle.use_check.proofs.Reporting.{is_report}
use Rattle.use_check.proofs.reports.report.Goals as goal

pub returns : goal.returns
returns c =
    let p = c.args.core.now in
    let t = c.args.accepted.now.tables in
    let u : Usages = record { program = p; reached = reached_of t; elements = λ key. members (tables_of t key) } in
    let all : c.contexts.result.now ≡ contexts_in p (reached_of t) = c.contexts.ensures ∙ c.requires.made.contexts in
    let text : c.from_string.result ≡ report_text p (reached_of t) (tables_of t) =
    c.from_string.ensures ∙ c.in_ok-put_contexts.ensures
    ∙ ap (λ (xs : List ℕ). xs ++ in_order (context_lines u) 0 c.contexts.result.now)
    (c.in_ok-put_classes.ensures ∙ ap (λ (xs : List ℕ). xs ++ in_order (class_lines u) 0 p.classes) c.new-out.ensures.bytes)
    ∙ ap (λ (xs : List Context). in_order (class_lines u) 0 p.classes ++ in_order (context_lines u) 0 xs) all in
    record { text = text; report = is_report p t c.from_string.result c.requires text }
