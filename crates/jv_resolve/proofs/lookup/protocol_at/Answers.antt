use Rattle.std.proofs.Common.{refl, ap, ◌∙◌}
use Rattle.std.specs.Prelude.{slice_get}
use Rattle.jv_resolve.proofs.Called.{seen_at}
use Rattle.jv_resolve.proofs.lookup.protocol_at.Goals as goal

pub returns : goal.returns
returns c =
    seen_at (λ p. p.of.now) c.protocols.result.now c.protocols.result.now refl c.args.number c.get.result c.get.ensures.lookup
    ∙ ap (λ ts. slice_get ts c.args.number) c.protocols.ensures
