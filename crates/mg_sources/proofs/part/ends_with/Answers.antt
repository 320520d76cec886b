use Rattle.std.proofs.Common.{◌∙◌}
use Rattle.mg_sources.proofs.Endings.{ends_told}
use Rattle.mg_sources.proofs.part.ends_with.Goals as goal

pub returns : goal.returns
returns c = ends_told c.ends_with.result c.args.name.now c.args.suffix.now c.as_bytes.result.now
    (c.as_bytes.ensures.value ∙ c.as_str.ensures) c.ends_with.ensures.value
