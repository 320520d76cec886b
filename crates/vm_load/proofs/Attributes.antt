-- What the view makes of each kind of attribute.
use Rattle.cls_tree.proofs.Views.{said-Code, said-Other}

pub ruleset views = (said-Code, said-Other)
