use Rattle.cls_verify.proofs.Rightly as rightly
use Rattle.cls_verify.proofs.sound_is_right.Goals as goal

pub returns-clause-starts : goal.returns-clause-starts
returns-clause-starts c = rightly.starts_sound

pub returns-clause-right : goal.returns-clause-right
returns-clause-right c = rightly.sound_is_right

pub returns-clause-stays : goal.returns-clause-stays
returns-clause-stays c = rightly.stays_sound
