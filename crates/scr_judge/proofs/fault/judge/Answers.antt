use Rattle.std.proofs.Common.{[]}
use Rattle.std.proofs.lemmas.Result.{IfOk-weaker}
use Rattle.scr_tree.specs.Conditions as says
use Rattle.scr_tree.specs.Listing.{UnknownRole, mentions_in}
use Rattle.scr_tree.specs.Spots.{spots}
use Rattle.scr_tree.specs.Faults.{Of}
use Rattle.scr_tree.specs.Written.{WrittenPart, written_of, part_written, roles_in, me_in, body_of}
use Rattle.scr_tree.specs.declared.condition.Condition.TheVariants as conditions
use Rattle.scr_judge.specs.inner.Own.{OfOwn}
use Rattle.scr_judge.proofs.Numbers.{arm, arm_named}
use Rattle.scr_judge.proofs.Owned.{first_map, each_judged, all_judged}
use Rattle.scr_judge.proofs.fault.judge.Goals as goal

pub returns-in-UnknownRole : goal.returns-in-UnknownRole
returns-in-UnknownRole c =
    arm_named (Of (written_of c.args.file c.args.written.now)) c.args.condition conditions.UnknownRole c.find_own.result c.in-UnknownRole.is
    (IfOk-weaker c.find_own.result _ _ (λ r f. each_judged (λ (p : WrittenPart). UnknownRole (roles_in p)) mentions_in
    (first_map (OfOwn conditions.UnknownRole) part_written f)) c.find_own.ensures)

pub returns-in-PeerIsSelf : goal.returns-in-PeerIsSelf
returns-in-PeerIsSelf c =
    arm_named (Of (written_of c.args.file c.args.written.now)) c.args.condition conditions.PeerIsSelf c.find_own-in-PeerIsSelf.result
    c.in-PeerIsSelf.is
    (IfOk-weaker c.find_own-in-PeerIsSelf.result _ _ (λ r f. each_judged (λ (p : WrittenPart). says.PeerIsSelf (me_in p))
    (λ (p : WrittenPart). spots [] p.body) (first_map (OfOwn conditions.PeerIsSelf) part_written f)) c.find_own-in-PeerIsSelf.ensures)

pub returns-in-UnknownRec : goal.returns-in-UnknownRec
returns-in-UnknownRec c =
    arm_named (Of (written_of c.args.file c.args.written.now)) c.args.condition conditions.UnknownRec c.find_own-in-UnknownRec.result
    c.in-UnknownRec.is
    (IfOk-weaker c.find_own-in-UnknownRec.result _ _
    (λ r f. all_judged says.UnknownRec body_of (first_map (OfOwn conditions.UnknownRec) part_written f)) c.find_own-in-UnknownRec.ensures)

pub returns-in-DuplicateRec : goal.returns-in-DuplicateRec
returns-in-DuplicateRec c =
    arm_named (Of (written_of c.args.file c.args.written.now)) c.args.condition conditions.DuplicateRec c.find_own-in-DuplicateRec.result
    c.in-DuplicateRec.is
    (IfOk-weaker c.find_own-in-DuplicateRec.result _ _
    (λ r f. all_judged says.DuplicateRec body_of (first_map (OfOwn conditions.DuplicateRec) part_written f))
    c.find_own-in-DuplicateRec.ensures)

pub returns-in-Unreachable : goal.returns-in-Unreachable
returns-in-Unreachable c =
    arm_named (Of (written_of c.args.file c.args.written.now)) c.args.condition conditions.Unreachable c.find_own-in-Unreachable.result
    c.in-Unreachable.is
    (IfOk-weaker c.find_own-in-Unreachable.result _ _
    (λ r f. all_judged says.Unreachable body_of (first_map (OfOwn conditions.Unreachable) part_written f)) c.find_own-in-Unreachable.ensures)

pub returns-in-BranchStart : goal.returns-in-BranchStart
returns-in-BranchStart c =
    arm_named (Of (written_of c.args.file c.args.written.now)) c.args.condition conditions.BranchStart c.find_own-in-BranchStart.result
    c.in-BranchStart.is
    (IfOk-weaker c.find_own-in-BranchStart.result _ _
    (λ r f. all_judged says.BranchStart body_of (first_map (OfOwn conditions.BranchStart) part_written f)) c.find_own-in-BranchStart.ensures)

pub returns-in-MixedChoice : goal.returns-in-MixedChoice
returns-in-MixedChoice c =
    arm_named (Of (written_of c.args.file c.args.written.now)) c.args.condition conditions.MixedChoice c.find_own-in-MixedChoice.result
    c.in-MixedChoice.is
    (IfOk-weaker c.find_own-in-MixedChoice.result _ _ (λ r f. each_judged (λ (p : WrittenPart). says.MixedChoice (me_in p))
    (λ (p : WrittenPart). spots [] p.body) (first_map (OfOwn conditions.MixedChoice) part_written f)) c.find_own-in-MixedChoice.ensures)

pub returns-in-SameLabel : goal.returns-in-SameLabel
returns-in-SameLabel c =
    arm_named (Of (written_of c.args.file c.args.written.now)) c.args.condition conditions.SameLabel c.find_own-in-SameLabel.result
    c.in-SameLabel.is
    (IfOk-weaker c.find_own-in-SameLabel.result _ _ (λ r f. each_judged (λ (p : WrittenPart). says.SameLabel (me_in p))
    (λ (p : WrittenPart). spots [] p.body) (first_map (OfOwn conditions.SameLabel) part_written f)) c.find_own-in-SameLabel.ensures)

pub returns-in-ReservedLabel : goal.returns-in-ReservedLabel
returns-in-ReservedLabel c =
    arm_named (Of (written_of c.args.file c.args.written.now)) c.args.condition conditions.ReservedLabel c.find_own-in-ReservedLabel.result
    c.in-ReservedLabel.is
    (IfOk-weaker c.find_own-in-ReservedLabel.result _ _ (λ r f. each_judged (λ (p : WrittenPart). says.ReservedLabel (me_in p))
    (λ (p : WrittenPart). spots [] p.body) (first_map (OfOwn conditions.ReservedLabel) part_written f)) c.find_own-in-ReservedLabel.ensures)

pub returns-in_ok-culprit-in-DuplicateName : goal.returns-in_ok-culprit-in-DuplicateName
returns-in_ok-culprit-in-DuplicateName c =
    arm (Of (written_of c.args.file c.args.written.now)) c.args.condition conditions.DuplicateName _ c.with_name.result
    c.in-DuplicateName.is
    c.in_ok-culprit-in-DuplicateName.ensures c.with_name.ensures

pub returns-in_ok-culprit-in-UnknownType : goal.returns-in_ok-culprit-in-UnknownType
returns-in_ok-culprit-in-UnknownType c =
    arm (Of (written_of c.args.file c.args.written.now)) c.args.condition conditions.UnknownType _ c.with_name-in-UnknownType.result
    c.in-UnknownType.is
    c.in_ok-culprit-in-UnknownType.ensures c.with_name-in-UnknownType.ensures

pub returns-in_ok-culprit-in-Unguarded : goal.returns-in_ok-culprit-in-Unguarded
returns-in_ok-culprit-in-Unguarded c =
    arm (Of (written_of c.args.file c.args.written.now)) c.args.condition conditions.Unguarded _ c.with_name-in-Unguarded.result
    c.in-Unguarded.is
    c.in_ok-culprit-in-Unguarded.ensures c.with_name-in-Unguarded.ensures

pub returns-in_ok-culprit-in-UnknownProtocol : goal.returns-in_ok-culprit-in-UnknownProtocol
returns-in_ok-culprit-in-UnknownProtocol c =
    arm (Of (written_of c.args.file c.args.written.now)) c.args.condition conditions.UnknownProtocol _ c.with_name-in-UnknownProtocol.result
    c.in-UnknownProtocol.is
    c.in_ok-culprit-in-UnknownProtocol.ensures c.with_name-in-UnknownProtocol.ensures

pub returns-in_ok-culprit-in-DuplicateProtocol : goal.returns-in_ok-culprit-in-DuplicateProtocol
returns-in_ok-culprit-in-DuplicateProtocol c =
    arm (Of (written_of c.args.file c.args.written.now)) c.args.condition conditions.DuplicateProtocol _
    c.with_name-in-DuplicateProtocol.result
    c.in-DuplicateProtocol.is
    c.in_ok-culprit-in-DuplicateProtocol.ensures c.with_name-in-DuplicateProtocol.ensures

pub returns-in-PayloadCount : goal.returns-in-PayloadCount
returns-in-PayloadCount c =
    arm (Of (written_of c.args.file c.args.written.now)) c.args.condition conditions.PayloadCount _ c.with_name-in-PayloadCount.result
    c.in-PayloadCount.is
    c.find_payload_in_file.ensures c.with_name-in-PayloadCount.ensures

pub returns-in-TooManyStates : goal.returns-in-TooManyStates
returns-in-TooManyStates c =
    arm (Of (written_of c.args.file c.args.written.now)) c.args.condition conditions.TooManyStates _ c.with_name-in-TooManyStates.result
    c.in-TooManyStates.is
    c.find_too_many_states.ensures c.with_name-in-TooManyStates.ensures

pub returns-in-RolesDiffer : goal.returns-in-RolesDiffer
returns-in-RolesDiffer c =
    arm (Of (written_of c.args.file c.args.written.now)) c.args.condition conditions.RolesDiffer _ c.with_name-in-RolesDiffer.result
    c.in-RolesDiffer.is
    c.find_roles_differ.ensures c.with_name-in-RolesDiffer.ensures

pub returns-in-NotLast : goal.returns-in-NotLast
returns-in-NotLast c =
    arm (Of (written_of c.args.file c.args.written.now)) c.args.condition conditions.NotLast _ c.with_name-in-NotLast.result c.in-NotLast.is
    c.find_not_last_in.ensures c.with_name-in-NotLast.ensures

pub returns-in-StartsWithDo : goal.returns-in-StartsWithDo
returns-in-StartsWithDo c =
    arm (Of (written_of c.args.file c.args.written.now)) c.args.condition conditions.StartsWithDo _ c.with_name-in-StartsWithDo.result
    c.in-StartsWithDo.is
    c.find_starts_with_do.ensures c.with_name-in-StartsWithDo.ensures

pub returns-in-NameClash : goal.returns-in-NameClash
returns-in-NameClash c =
    arm_named (Of (written_of c.args.file c.args.written.now)) c.args.condition conditions.NameClash c.find_name_clash.result
    c.in-NameClash.is
    c.find_name_clash.ensures
