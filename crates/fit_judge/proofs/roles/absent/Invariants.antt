use Rattle.std.proofs.Common.{drop, Option}
use Rattle.std.specs.HashSet.{contains_text}
use Rattle.mg_read.specs.First.{Judged}
use Rattle.mg_refusal.specs.Refusals.{Refusal}
use Rattle.scr_global_tree.specs.Global.{tree_of}
use Rattle.mg_fits.specs.Parts.{header}
use Rattle.fit_judge.specs.inner.Absent.{IsAbsent}
use Rattle.fit_judge.proofs.roles.absent.Given as goal

abbrev pub invariant-loop-number : goal.invariant-loop-number
invariant-loop-number l =
    (r : Option Refusal) →
    Judged (IsAbsent l.kind (contains_text l.there)) (header (drop l.number (tree_of l.global).roles) (drop l.number (tree_of l.global).places)) r →
    Judged (IsAbsent l.kind (contains_text l.there)) (header (tree_of l.global).roles (tree_of l.global).places) r
