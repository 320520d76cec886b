use Rattle.std.proofs.Common.{◌∙◌, sym, ap, position}
use Rattle.std.specs.Str.{bytes_eq}
use Rattle.jv_core.specs.Lookup.{text_at}
use Rattle.jv_core.specs.Tree.{Class}
use Rattle.jv_core.specs.View.{class_of}
use Rattle.vm_step.proofs.Places.{position-map}
use Rattle.mg_runs.proofs.mains.class_named.Goals as goal

pub returns : goal.returns
returns c =
    let named = λ (k : Class). bytes_eq (text_at c.args.core.now k.name) c.args.name.now in
    c.class_place.ensures ∙ sym (position-map class_of named c.classes.result.now) ∙ ap (position named) c.classes.ensures
