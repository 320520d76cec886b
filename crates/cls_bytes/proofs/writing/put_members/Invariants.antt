use Rattle.std.proofs.Common.{None, drop, map}
use Rattle.cls_tree.specs.View.{member_of}
use Rattle.cls_tree.specs.Layout.{member_bytes}
use Rattle.cls_tree.specs.Fits.{FitsMember}
use Rattle.cls_bytes.specs.Answer.{members_refusal}
use Rattle.cls_bytes.proofs.Refusals.{Left}
use Rattle.cls_bytes.proofs.writing.put_members.Given as goal

abbrev pub invariant-loop-member : goal.invariant-loop-member
invariant-loop-member l =
    Left member_bytes FitsMember (λ ms. members_refusal ms None) (map member_of l.members) (map member_of (drop l.member-index l.members))
    l.initial.out l.out
