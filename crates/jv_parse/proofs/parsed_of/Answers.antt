use Rattle.std.proofs.Common.{Some, sym, subst}
use Rattle.mg_text.specs.Call.{Name}
use Rattle.mg_read.specs.Culprit.{culprit}
use Rattle.mg_read.specs.First.{Judged}
use Rattle.jv_parse.specs.Unsupported.{IsUnsupported}
use Rattle.jv_parse.proofs.parsed_of.Goals as goal

pub returns-in-Some : goal.returns-in-Some
returns-in-Some c =
    subst (λ (n : Name). Judged IsUnsupported c.args.tokens.now (Some (culprit c.in-Some.place n))) (sym c.in_ok-name.ensures)
    c.in-Some.ensures
