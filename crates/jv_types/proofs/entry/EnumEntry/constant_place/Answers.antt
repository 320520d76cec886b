use Rattle.std.proofs.Common.{ap, ◌∙◌, position}
use Rattle.std.specs.Str.{bytes_eq}
use Rattle.jv_types.proofs.entry.EnumEntry.constant_place.Goals as goal

pub returns : goal.returns
returns c = c.place_of.ensures ∙ ap (position (bytes_eq c.args.name.now)) c.args.self.now.named
