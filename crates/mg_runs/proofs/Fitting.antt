-- Roles of accepted files that fit a global protocol don't get stuck.
use Rattle.mg_fits.specs.Laws.{RolesThatFit}
use Rattle.mg_runs.specs.Laws.{RolesFit}
use Rattle.mg_runs.proofs.Roles.{main_at}

pub roles_fit : RolesThatFit → RolesFit
roles_fit law files core accepted mains found program first begins meant =
    law files core accepted mains (main_at core mains found) program first begins (λ taken. (meant taken).each)
