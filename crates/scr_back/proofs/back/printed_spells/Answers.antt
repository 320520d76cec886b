use Rattle.scr_back.proofs.WholeFile as law
use Rattle.scr_back.proofs.back.printed_spells.Goals as goal

pub returns : goal.returns
returns c = law.printed_spells
