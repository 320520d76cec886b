use Rattle.std.proofs.Common.{drop, map, List, Option}
use Rattle.jv_core.specs.Tree.{Program}
use Rattle.vm_world_law.specs.declared.role.RoleMain.{RoleMain}
use Rattle.mg_read.specs.First.{Judged}
use Rattle.mg_refusal.specs.Refusals.{Refusal}
use Rattle.mg_sources.specs.Parts.{part_of}
use Rattle.scr_global_tree.specs.Global.{tree_of}
use Rattle.mg_fits.specs.Parts.{header}
use Rattle.mg_fits.specs.Conditions.{HasOther}
use Rattle.fit_judge.proofs.projections.other_protocol.Given as goal

abbrev pub invariant-loop-number : goal.invariant-loop-number
invariant-loop-number l =
    (core : Program) (mains : List RoleMain) (r : Option Refusal) →
    Judged (HasOther (tree_of l.global) (map part_of l.parts) core mains)
    (header (drop l.number (tree_of l.global).roles) (drop l.number (tree_of l.global).places)) r →
    Judged (HasOther (tree_of l.global) (map part_of l.parts) core mains) (header (tree_of l.global).roles (tree_of l.global).places) r
