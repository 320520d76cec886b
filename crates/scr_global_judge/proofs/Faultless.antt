-- A file without a fault is a valid global protocol.
use Rattle.std.proofs.Common.{◌≡◌, None}
use Rattle.mg_read.proofs.Judging.{judged-clean}
use Rattle.scr_judge.proofs.Faultless.{roles_differ, split}
use Rattle.scr_global.specs.Conditions.{HaveBranches, HaveBranchesIn}
use Rattle.scr_global.specs.Tree.{Statements, Nothing, Says, Choice, Rec, Continue, Branches, NoBranch, Branch}
use Rattle.scr_global_tree.specs.Faults.{IsFault}
use Rattle.scr_global_tree.specs.Valid.{AreWritten, AreWrittenIn, HasBranches, IsWritten, IsValid}
use Rattle.scr_global_tree.specs.Written.{WrittenTree, global_of}

mutual
  have_branches : (s : Statements) → AreWritten s → HaveBranches s
  have_branches Nothing w = tt
  have_branches (Says m rest) w = have_branches rest w.3
  have_branches (Choice place at branches rest) w = (some_branch branches w.1, have_branches_in branches w.2, have_branches rest w.3)
  have_branches (Rec place name body rest) w = (have_branches body w.1, have_branches rest w.2)
  have_branches (Continue place name rest) w = have_branches rest w.1

  have_branches_in : (bs : Branches) → AreWrittenIn bs → HaveBranchesIn bs
  have_branches_in NoBranch w = tt
  have_branches_in (Branch b more) w = (have_branches b w.0, have_branches_in more w.1)

  some_branch : (bs : Branches) → HasBranches bs → bs ≡ NoBranch → ⊥
  some_branch NoBranch h e = h
  some_branch (Branch b more) h e = cc

pub faultless : (w : WrittenTree) → IsFault w None → IsWritten (global_of w) → IsValid (global_of w)
faultless w f written =
    let a = split f in let b = split a.1 in let c = split b.1 in let d = split c.1 in let e = split d.1 in
    let g = split e.1 in let h = split g.1 in let i = split h.1 in let j = split i.1 in let k = split j.1 in
    let l = split k.1 in let m = split l.1 in
    record {
      written = written;
      roles_differ = roles_differ w.types w.roles (judged-clean a.0);
      clean = record {
        written = have_branches w.body written.body;
        roles_listed = judged-clean b.0;
        roles_apart = judged-clean c.0;
        recs_known = judged-clean g.0;
        recs_differ = judged-clean h.0;
        guarded = judged-clean i.0;
        reachable = judged-clean j.0;
        starts = judged-clean k.0;
        uniform = judged-clean l.0;
        labels_differ = judged-clean m.0;
      };
    }
