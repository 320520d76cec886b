use Rattle.std.proofs.Common.{◌<◌, ◌≤◌, ◌++◌, ℕ, List, length, get_or, refl, ap, ◌∙◌, arith, string_bytes}
use Rattle.std.proofs.lemmas.List.{get_or_default}
use Rattle.use_rules.specs.declared.key.Context.{Context}
use Rattle.use_rules.specs.declared.key.Context.TheVariants.{Plain}
use Rattle.use_flow.proofs.Turns.{one, last}
use Rattle.use_check.specs.Report.{context_lines, in_order}
use Rattle.use_check.specs.inner.Reported.{seen}
use Rattle.use_check.proofs.lines.Reporter.put_contexts.Goals as goal

pub loop-place-preserved : goal.loop-place-preserved
loop-place-preserved c =
    let lt : c.loop-place.place < length c.args.contexts.now = omega arith in
    let x : Context = get_or c.args.contexts.now c.loop-place.place (Plain 0) in
    one (λ (k : ℕ) (s : List Context). in_order (context_lines (seen c.args.self.now)) k s) (context_lines (seen c.args.self.now))
    (λ k y s. refl) (λ k. refl)
    c.loop-place.place x c.args.contexts.now (string_bytes c.loop-place.out) _ _ lt (get_or_default c.args.contexts.now c.loop-place.place
    (Plain 0) x lt)
    (c.in_ok-put_context.ensures ∙ ap (λ n. string_bytes c.loop-place.out ++ context_lines (seen c.args.self.now) n x)
    c.in_ok-context_number.ensures)
    c.loop-place.invariant

pub returns : goal.returns
returns c =
    let end : length c.args.contexts.now ≤ c.loop-place.place = omega arith in
    last (λ (k : ℕ) (s : List Context). in_order (context_lines (seen c.args.self.now)) k s) (context_lines (seen c.args.self.now))
    (λ k y s. refl) (λ k. refl)
    c.loop-place.place c.args.contexts.now (string_bytes c.loop-place.out) _ end c.loop-place.invariant
