use Rattle.std.proofs.Common.{arith}
use Rattle.std.proofs.lemmas.Grind.{common_steps}
use Rattle.std.proofs.Common.{◌≡◌, [], ℕ, List, Vec, get_or, Contains, subst, sym, ◌∙◌}
use Rattle.std.specs.Global.{Global}
use Rattle.std.proofs.lemmas.Result.{IfOk-weaker}
use Rattle.scr_judge.specs.inner.View.{graph_of}
use Rattle.scr_judge.proofs.Searching.{row_at}
use Rattle.scr_judge.proofs.round.follow.Goals as goal

pub returns-in-Some-clause-hit : goal.returns-in-Some-clause-hit
returns-in-Some-clause-hit c =
    let edges : c.as_slice.result.now ≡ get_or (graph_of c.args.targets.now) c.args.node [] =
    c.as_slice.ensures.value
    ∙ sym (row_at (λ (v : Vec ℕ Global). v.items) c.args.targets.now c.args.node c.in-Some.edges.now [] c.in-Some.ensures.lookup.3.0
    c.in-Some.ensures.lookup.1) in
    IfOk-weaker c.spread.result _ _ (λ b h t. subst (λ (es : List ℕ). Contains es c.args.to) edges (h t)) c.spread.ensures.hit

pub returns-in-None-clause-spread : goal.returns-in-None-clause-spread
returns-in-None-clause-spread c = grind (arith, common_steps)

pub returns-in-Some-clause-spread : goal.returns-in-Some-clause-spread
returns-in-Some-clause-spread c = grind (arith, common_steps)
