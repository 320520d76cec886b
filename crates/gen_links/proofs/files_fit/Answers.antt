use Rattle.gen_links.proofs.Whole as whole
use Rattle.gen_links.proofs.SpelledPrograms as programs
use Rattle.gen_links.proofs.files_fit.Goals as goal

pub returns-clause-spelled : goal.returns-clause-spelled
returns-clause-spelled c = whole.files_fit

pub returns-clause-cores : goal.returns-clause-cores
returns-clause-cores c = programs.cores_fit
