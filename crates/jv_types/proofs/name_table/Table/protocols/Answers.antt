use Rattle.std.proofs.Common.{map, ap, ◌∙◌}
use Rattle.jv_types.proofs.name_table.Table.protocols.Goals as goal

pub returns : goal.returns
returns c = ap (map (λ p. p.of.now)) c.as_slice.ensures.value ∙ c.args.self.now.tabled.all_typestates
