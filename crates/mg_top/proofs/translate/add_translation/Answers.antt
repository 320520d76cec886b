use Rattle.mg_top.proofs.SourceLemmas.{adds_translation}
use Rattle.mg_top.proofs.translate.add_translation.Goals as goal

pub returns : goal.returns
returns c =
    adds_translation _ _ _ _ _ _ _ _ c.in_ok-typestate.typestate c.in_ok-typestate.ensures c.in_ok-files.ensures c.as_slice.ensures.items
    c.in_ok-push.ensures.ok c.add_files.ensures
