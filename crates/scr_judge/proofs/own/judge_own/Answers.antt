use Rattle.std.proofs.Common.{[], subst}
use Rattle.mg_read.specs.First.{Judged}
use Rattle.scr_tree.specs.Conditions as says
use Rattle.scr_tree.specs.Spots.{spots}
use Rattle.scr_tree.specs.View.{statements}
use Rattle.scr_tree.specs.Written.{part_written}
use Rattle.scr_tree.specs.declared.condition.Condition.TheVariants as conditions
use Rattle.scr_judge.specs.inner.View.{culprit_of}
use Rattle.scr_judge.proofs.Owned.{own_arm, no_own}
use Rattle.scr_judge.proofs.own.judge_own.Goals as goal

pub returns-in_ok-culprit-in-UnknownRole : goal.returns-in_ok-culprit-in-UnknownRole
returns-in_ok-culprit-in-UnknownRole c =
    own_arm (part_written c.args.part.now) c.args.condition conditions.UnknownRole _ c.with_name.result c.in-UnknownRole.is
    c.in_ok-culprit-in-UnknownRole.ensures
    c.with_name.ensures

pub returns-in-PeerIsSelf : goal.returns-in-PeerIsSelf
returns-in-PeerIsSelf c =
    own_arm (part_written c.args.part.now) c.args.condition conditions.PeerIsSelf _ c.with_name-in-PeerIsSelf.result c.in-PeerIsSelf.is
    (subst (λ b. Judged (says.PeerIsSelf c.args.part.now.me.name) (spots [] (statements b)) (culprit_of c.find_peer_is_self.result))
    c.as_slice-body.ensures.items c.find_peer_is_self.ensures)
    c.with_name-in-PeerIsSelf.ensures

pub returns-in-UnknownRec : goal.returns-in-UnknownRec
returns-in-UnknownRec c =
    own_arm (part_written c.args.part.now) c.args.condition conditions.UnknownRec _ c.with_name-in-UnknownRec.result c.in-UnknownRec.is
    (subst (λ b. Judged (says.UnknownRec) (spots [] (statements b)) (culprit_of c.find_unknown_rec.result)) c.as_slice-body.ensures.items
    c.find_unknown_rec.ensures)
    c.with_name-in-UnknownRec.ensures

pub returns-in-DuplicateRec : goal.returns-in-DuplicateRec
returns-in-DuplicateRec c =
    own_arm (part_written c.args.part.now) c.args.condition conditions.DuplicateRec _ c.with_name-in-DuplicateRec.result c.in-DuplicateRec.is
    (subst (λ b. Judged (says.DuplicateRec) (spots [] (statements b)) (culprit_of c.find_duplicate_rec.result))
    c.as_slice-body.ensures.items c.find_duplicate_rec.ensures)
    c.with_name-in-DuplicateRec.ensures

pub returns-in-Unreachable : goal.returns-in-Unreachable
returns-in-Unreachable c =
    own_arm (part_written c.args.part.now) c.args.condition conditions.Unreachable _ c.with_name-in-Unreachable.result c.in-Unreachable.is
    (subst (λ b. Judged (says.Unreachable) (spots [] (statements b)) (culprit_of c.find_unreachable.result)) c.as_slice-body.ensures.items
    c.find_unreachable.ensures)
    c.with_name-in-Unreachable.ensures

pub returns-in-BranchStart : goal.returns-in-BranchStart
returns-in-BranchStart c =
    own_arm (part_written c.args.part.now) c.args.condition conditions.BranchStart _ c.with_name-in-BranchStart.result c.in-BranchStart.is
    (subst (λ b. Judged (says.BranchStart) (spots [] (statements b)) (culprit_of c.find_branch_start.result)) c.as_slice-body.ensures.items
    c.find_branch_start.ensures)
    c.with_name-in-BranchStart.ensures

pub returns-in-MixedChoice : goal.returns-in-MixedChoice
returns-in-MixedChoice c =
    own_arm (part_written c.args.part.now) c.args.condition conditions.MixedChoice _ c.with_name-in-MixedChoice.result c.in-MixedChoice.is
    (subst (λ b. Judged (says.MixedChoice c.args.part.now.me.name) (spots [] (statements b)) (culprit_of c.find_mixed_choice.result))
    c.as_slice-body.ensures.items c.find_mixed_choice.ensures)
    c.with_name-in-MixedChoice.ensures

pub returns-in_ok-culprit-in-SameLabel : goal.returns-in_ok-culprit-in-SameLabel
returns-in_ok-culprit-in-SameLabel c =
    own_arm (part_written c.args.part.now) c.args.condition conditions.SameLabel _ c.with_name-in-SameLabel.result c.in-SameLabel.is
    (subst (λ b. Judged (says.SameLabel c.args.part.now.me.name) (spots [] (statements b))
    (culprit_of c.in_ok-culprit-in-SameLabel.culprit)) c.as_slice-body.ensures.items c.in_ok-culprit-in-SameLabel.ensures)
    c.with_name-in-SameLabel.ensures

pub returns-in-ReservedLabel : goal.returns-in-ReservedLabel
returns-in-ReservedLabel c =
    own_arm (part_written c.args.part.now) c.args.condition conditions.ReservedLabel _ c.with_name-in-ReservedLabel.result c.in-ReservedLabel.is
    (subst (λ b. Judged (says.ReservedLabel c.args.part.now.me.name) (spots [] (statements b)) (culprit_of c.find_reserved_label.result))
    c.as_slice-body.ensures.items c.find_reserved_label.ensures)
    c.with_name-in-ReservedLabel.ensures

pub returns-in_default : goal.returns-in_default
returns-in_default c =
    let o = c.in_default in
    no_own (part_written c.args.part.now) c.args.condition o.not-UnknownRole o.not-PeerIsSelf o.not-UnknownRec o.not-DuplicateRec
    o.not-Unreachable o.not-BranchStart o.not-MixedChoice o.not-SameLabel o.not-ReservedLabel
