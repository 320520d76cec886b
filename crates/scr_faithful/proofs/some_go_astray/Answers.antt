use Rattle.scr_faithful.proofs.Astray as astray
use Rattle.scr_faithful.proofs.some_go_astray.Goals as goal

pub returns : goal.returns
returns c = astray.some_go_astray
