use Rattle.std.proofs.Common.{ap, ◌∙◌}
use Rattle.std.specs.List.{list_any}
use Rattle.std.specs.Str.{bytes_eq}
use Rattle.jv_types.proofs.Finding.{any_found}
use Rattle.jv_types.proofs.entry.EnumEntry.has_constant.Goals as goal

pub returns : goal.returns
returns c =
    any_found (λ n. n.0) c.args.name.now c.args.self.now.constants c.find.result c.is_some.result c.find.ensures c.is_some.ensures
    ∙ ap (list_any (bytes_eq c.args.name.now)) c.args.self.now.named
