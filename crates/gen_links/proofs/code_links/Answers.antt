use Rattle.gen_links.proofs.Judging as judging
use Rattle.gen_links.proofs.Bodies as bodies
use Rattle.gen_links.proofs.code_links.Goals as goal

pub returns-clause-assembled : goal.returns-clause-assembled
returns-clause-assembled c = judging.assembled_links

pub returns-clause-right : goal.returns-clause-right
returns-clause-right c = bodies.code_is_right
