use Rattle.mg_sources.proofs.Programs.{adds_protocol}
use Rattle.scr_tree.specs.Local.{tree_of}
use Rattle.mg_sources.proofs.sources.add_protocol.Goals as goal

pub returns : goal.returns
returns c =
    adds_protocol c.add_typestate.result c.args.number (tree_of c.args.local.now) c.in_ok-typestate.typestate c.in_ok-files.files.items
    c.args.sources.now
    c.add_typestate.new.sources c.add_files.new.files c.in_ok-typestate.ensures.numbered c.in_ok-files.ensures c.in_ok-add_files.ensures
    c.add_typestate.ensures.files c.add_typestate.ensures.typestates c.add_typestate.ensures.origins
