use Rattle.std.proofs.Common.{◌≡◌, map, take}
use Rattle.scr_tree.specs.Local.{tree_of as local_of}
use Rattle.mg_projected.specs.inner.Stages.{role_file}
use Rattle.mg_projected.proofs.files.files_of.Given as goal

abbrev pub invariant-loop-local : goal.invariant-loop-local
invariant-loop-local l = l.files.items ≡ map (λ x. role_file (local_of x)) (take l.local-index l.locals)
