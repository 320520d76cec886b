use Rattle.gen_links.proofs.Programs as programs
use Rattle.gen_links.proofs.Cores as cores
use Rattle.gen_links.proofs.files_link.Goals as goal

pub returns-clause-found : goal.returns-clause-found
returns-clause-found c = programs.files_link

pub returns-clause-cores : goal.returns-clause-cores
returns-clause-cores c = cores.cores_link

pub returns-clause-jumps : goal.returns-clause-jumps
returns-clause-jumps c = cores.cores_jump
