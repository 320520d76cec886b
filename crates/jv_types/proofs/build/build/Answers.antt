use Rattle.std.proofs.Common.{[], ap, ◌∙◌}
use Rattle.std.specs.Prelude.{flat_map}
use Rattle.jv_types.specs.inner.Kept.{class_kept, enum_kept}
use Rattle.jv_types.proofs.Building.{classes_in, enums_in}
use Rattle.jv_types.proofs.NewNames.{new_noted}
use Rattle.jv_types.proofs.build.build.Goals as goal

pub class_entries-requires-clause-names : goal.class_entries-requires-clause-names
class_entries-requires-clause-names c = c.in_ok-names.ensures ∙ new_noted [] _ c.requires.typestates

pub tabled-requires-clause-named : goal.tabled-requires-clause-named
tabled-requires-clause-named c = c.in_ok-names.ensures ∙ new_noted [] _ c.requires.typestates

pub tabled-requires-clause-protocols : goal.tabled-requires-clause-protocols
tabled-requires-clause-protocols c = c.in_ok-protocols.ensures

pub tabled-requires-clause-classes : goal.tabled-requires-clause-classes
tabled-requires-clause-classes c = c.in_ok-classes.ensures.classes ∙ ap (flat_map class_kept) c.requires.decls ∙ classes_in c.args.files.now

pub tabled-requires-clause-follow : goal.tabled-requires-clause-follow
tabled-requires-clause-follow c = c.in_ok-classes.ensures.follow

pub tabled-requires-clause-enums : goal.tabled-requires-clause-enums
tabled-requires-clause-enums c = c.in_ok-enums.ensures ∙ ap (flat_map enum_kept) c.requires.decls ∙ enums_in c.args.files.now

pub tabled-requires-clause-numbers : goal.tabled-requires-clause-numbers
tabled-requires-clause-numbers c = c.in_ok-classes.ensures.numbers
