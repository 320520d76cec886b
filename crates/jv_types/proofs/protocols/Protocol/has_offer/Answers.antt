use Rattle.std.proofs.Common.{◌∙◌}
use Rattle.jv_types.proofs.Finding.{any_found}
use Rattle.jv_types.proofs.protocols.Protocol.has_offer.Goals as goal

pub returns : goal.returns
returns c =
    any_found (λ n. n.0) c.args.name.now c.args.self.now.names c.find.result c.is_some.result c.find.ensures c.is_some.ensures ∙
    c.args.self.now.named.each c.args.name.now
