use Rattle.std.proofs.Common.{◌≡◌, ◌++◌, [], drop, map}
use Rattle.scr_tree.specs.Local.{tree_of}
use Rattle.jv_tree.specs.View.{method_of as kept_method}
use Rattle.stm_api.specs.Api.{method_of}
use Rattle.stm_api.specs.inner.Does.{firsts_of}
use Rattle.stm_api.specs.inner.View.{doing_of}
use Rattle.stm_api.proofs.files.methods_of.Given as goal

abbrev pub invariant-loop-doing : goal.invariant-loop-doing
invariant-loop-doing l =
    map (method_of l.place (tree_of l.local).me) (firsts_of (tree_of l.local).me [] (map doing_of l.doings))
    ≡ map kept_method l.methods.items ++ map (method_of l.place (tree_of l.local).me)
    (firsts_of (tree_of l.local).me l.seen (map doing_of (drop l.doing-index l.doings)))
