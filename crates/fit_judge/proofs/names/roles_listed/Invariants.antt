use Rattle.std.proofs.Common.{take, map}
use Rattle.std.specs.HashSet.{contains_text}
use Rattle.mg_text.specs.Call.{Name}
use Rattle.scr_judge.proofs.Duplicates.{HasNames}
use Rattle.fit_judge.proofs.names.roles_listed.Given as goal

abbrev pub invariant-loop-role : goal.invariant-loop-role
invariant-loop-role l = HasNames (contains_text l.names) (map (λ (r : Name). r) (take l.role-index l.roles))
