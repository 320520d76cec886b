-- The tree that a local protocol is.
use Rattle.scr_tree.specs.Tree.{LocalTree}
use Rattle.scr_tree.specs.View.{written}
use Rattle.scr_tree.specs.declared.local.Local.{Local}

abbrev pub tree_of : Local → LocalTree
tree_of local = written local.file local.name local.me local.roles.items local.body.items local.others.items
