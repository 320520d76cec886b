use Rattle.scr_faithful.proofs.Faithful as faithful
use Rattle.scr_faithful.proofs.Leaving.{left_can_end}
use Rattle.scr_faithful.proofs.Guarding.{clean_is_guarded}
use Rattle.scr_faithful.proofs.Heard.{each_has_done_a_part}
use Rattle.scr_faithful.proofs.roles_converse.Goals as goal

pub returns-clause-complete : goal.returns-clause-complete
returns-clause-complete c = faithful.complete_is_conversation

pub returns-clause-part : goal.returns-clause-part
returns-clause-part c = faithful.each_has_done_its_part

pub returns-clause-clean : goal.returns-clause-clean
returns-clause-clean c = clean_is_guarded

pub returns-clause-left : goal.returns-clause-left
returns-clause-left c = left_can_end

pub returns-clause-heard : goal.returns-clause-heard
returns-clause-heard c = each_has_done_a_part
