use Rattle.std.proofs.Common.{take, map}
use Rattle.mg_read.proofs.Scanning.{Left}
use Rattle.scr_judge.specs.inner.Listed.{ListedTwice}
use Rattle.scr_judge.specs.inner.Seen.{noted_in}
use Rattle.scr_tree.specs.Written.{role_name}
use Rattle.scr_judge.proofs.Duplicates.{HasNames}
use Rattle.scr_judge.proofs.roles.find_listed_twice.Given as goal

abbrev pub invariant-loop-role : goal.invariant-loop-role
invariant-loop-role l = record {
  names : HasNames (noted_in l.names) (map role_name (take l.role-index l.roles));
  left : Left ListedTwice l.roles l.role-index;
}
