use Rattle.use_meant_law.proofs.Kept as laws
use Rattle.use_meant_law.proofs.sources_keep_typestates.Goals as goal

pub returns : goal.returns
returns c =
    laws.sources_keep c.core_is_kept.ensures c.sources_are_sound.ensures c.mains_are_the_same.ensures c.follows_the_same.ensures
    c.keeps_typestates.ensures
