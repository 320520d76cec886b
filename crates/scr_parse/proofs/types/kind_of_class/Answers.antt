use Rattle.std.proofs.Common.{None, Some, sym, ap, ◌∙◌}
use Rattle.scr_tree.specs.declared.syntax.Payload.{Payload}
use Rattle.scr_tree.specs.declared.syntax.Payload.TheVariants as payloads
use Rattle.scr_parse.proofs.types.kind_of_class.Goals as goal

pub returns-in-Some : goal.returns-in-Some
returns-in-Some c =
    ap (λ o. elim o as (λ _. Payload) [ None ↦ payloads.Nothing | Some kind ↦ kind ]) (sym c.in-Some.is ∙ c.of_class.ensures)

pub returns-in-None : goal.returns-in-None
returns-in-None c =
    ap (λ o. elim o as (λ _. Payload) [ None ↦ payloads.Nothing | Some kind ↦ kind ]) (sym c.in-None.is ∙ c.of_class.ensures)
