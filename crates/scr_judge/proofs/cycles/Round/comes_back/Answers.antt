use Rattle.std.proofs.Common.{◌≡◌, ◌<◌, ℕ, List, get_or, sym, ap, ◌∙◌, arith, true≢false}
use Rattle.scr_judge.specs.inner.View.{graph_of}
use Rattle.scr_judge.proofs.Ranks.{no_way_back}
use Rattle.scr_judge.proofs.cycles.Round.comes_back.Goals as goal

pub returns-then-apart : goal.returns-then-apart
returns-then-apart c =
    let ranks : List ℕ = c.args.self.now.ranks.items in
    let from : c.value_at.result ≡ get_or ranks c.args.from 0 = c.value_at.ensures ∙ ap (λ (l : List ℕ). get_or l c.args.from 0)
    c.as_slice-ranks.ensures.value in
    let to : c.value_at-2.result ≡ get_or ranks c.args.to 0 = c.value_at-2.ensures ∙ ap (λ (l : List ℕ). get_or l c.args.to 0)
    c.as_slice-ranks.ensures.value in
    let lower : get_or ranks c.args.from 0 < get_or ranks c.args.to 0 = omega (arith, from, to, c.if-apart.true) in
    λ f. (
      λ t. absurd (true≢false (sym t)),
      λ r. absurd (no_way_back (graph_of c.args.self.now.targets.items) ranks (f c.if-self.true) c.args.to c.args.from lower r),
    )
