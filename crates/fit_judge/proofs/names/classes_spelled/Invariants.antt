use Rattle.std.specs.HashSet.{contains_text}
use Rattle.scr_tree.specs.Tree.{LocalTree}
use Rattle.stm_acts.specs.Played.{role_class}
use Rattle.scr_judge.proofs.Duplicates.{HasNames}
use Rattle.fit_judge.proofs.Sets.{keys_to}
use Rattle.fit_judge.proofs.names.classes_spelled.Given as goal

abbrev pub invariant-loop-part : goal.invariant-loop-part
invariant-loop-part l = HasNames (contains_text l.names) (keys_to (λ (l : LocalTree). role_class l.me) l.parts l.part-index)
