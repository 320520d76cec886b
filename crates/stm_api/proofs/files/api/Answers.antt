use Rattle.scr_tree.specs.Local.{tree_of}
use Rattle.stm_api.proofs.Whole.{is_api}
use Rattle.stm_api.proofs.files.api.Goals as goal

pub returns : goal.returns
returns c =
    is_api (tree_of c.args.local.now) c.in_ok-doings.doings.items c.as_slice.result.now c.as_slice-2.result.now c.start-place.result
    c.file.result c.me.result.now c.in_ok-class.class
    c.new-files.result.items c.push.new.self.items c.add_enums.new.files.items c.in_ok-doings.ensures c.as_slice.ensures.items
    c.as_slice-2.ensures.items c.start-place.ensures c.file.ensures
    c.me.ensures c.in_ok-class.ensures c.new-files.ensures c.in_ok-push.ensures.ok c.in_ok-add_enums.ensures
