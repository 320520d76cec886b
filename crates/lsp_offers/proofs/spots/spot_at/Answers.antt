use Rattle.std.proofs.Common.{◌≡◌, ◌∙◌, ap, arith}
use Rattle.lsp_offers.specs.Spots.{spot_behind}
use Rattle.lsp_offers.proofs.Backwards.{behind_some}
use Rattle.lsp_offers.proofs.spots.spot_at.Goals as goal

pub returns-then-begin-eq0-clause-value : goal.returns-then-begin-eq0-clause-value
returns-then-begin-eq0-clause-value c =
    let none : 0 ≡ c.begin_of-begin.result = omega arith in
    ap (spot_behind c.args.text.now) (none ∙ c.begin_of-begin.ensures.value)

pub returns-clause-value : goal.returns-clause-value
returns-clause-value c =
    c.spot_before.ensures.value
    ∙ behind_some c.args.text.now c.begin_of-begin.result (λ none. omega (arith, none))
    ∙ ap (spot_behind c.args.text.now) c.begin_of-begin.ensures.value
