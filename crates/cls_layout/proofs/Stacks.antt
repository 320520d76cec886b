-- Stacks of parts that are due.
use Rattle.std.proofs.Common.{◌≡◌, List, ◌++◌, reverse, ap, ◌∙◌}
use Rattle.std.proofs.lemmas.List.{reverse-append}
use Rattle.cls_layout.specs.declared.format.Part.{Part}

pub stacked : (old parts new : List Part) → new ≡ old ++ parts → reverse new ≡ reverse parts ++ reverse old
stacked old parts new e = ap reverse e ∙ reverse-append old parts
