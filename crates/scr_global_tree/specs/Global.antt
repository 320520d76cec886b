-- The tree that a global protocol is.
use Rattle.scr_global_tree.specs.Tree.{GlobalTree}
use Rattle.scr_global_tree.specs.View.{written}
use Rattle.scr_global_tree.specs.declared.global.Global.{Global}

abbrev pub tree_of : Global → GlobalTree
tree_of global = written global.file global.name global.roles.items global.places.items global.body.items
