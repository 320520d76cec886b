use Rattle.std.proofs.Common.{◌≡◌, List, [], map, ◌++◌, Option, None, refl, sym, subst, IsTrue, ◌↔◌, Contains}
use Rattle.std.specs.List.{flat_map}
use Rattle.std.specs.HashSet.{contains_text}
use Rattle.std.proofs.lemmas.Result.{IfOk-weaker}
use Rattle.mg_text.specs.Call.{Name}
use Rattle.mg_read.specs.Culprit.{Culprit}
use Rattle.mg_read.specs.First.{Judged, with_earlier}
use Rattle.scr_tree.specs.Conditions as says
use Rattle.scr_tree.specs.Listing.{DuplicateName, declares, lists, UnknownType, declared, carried_by, PayloadCount}
use Rattle.scr_tree.specs.Spots as local_spots
use Rattle.scr_tree.specs.Tree as local
use Rattle.scr_tree.specs.View as locals
use Rattle.scr_tree.specs.Written.{carries_of, role_name}
use Rattle.scr_tree.specs.declared.condition.Condition.TheVariants as conditions
use Rattle.scr_tree.specs.declared.written.Carries.{Carries}
use Rattle.scr_tree.specs.declared.written.Declaration.{Declaration}
use Rattle.scr_tree.specs.declared.written.Role.{Role}
use Rattle.scr_judge.specs.inner.View.{culprit_of, named_of}
use Rattle.scr_global.specs.Conditions as asks
use Rattle.scr_global.specs.Spots.{spots}
use Rattle.scr_global_tree.specs.View.{statements}
use Rattle.scr_global_tree.specs.Faults.{Of}
use Rattle.scr_global_tree.specs.Written.{written_of}
use Rattle.scr_global_tree.specs.declared.statement.GStatement.{GStatement}
use Rattle.scr_global_judge.specs.inner.Outline.{outlined}
use Rattle.scr_global_judge.specs.inner.Roles.{walk, unknown_role}
use Rattle.scr_global_judge.proofs.Alike.{recs_known, recs_differ, guarded, reachable, starts, uniform, labels_differ}
use Rattle.scr_judge.proofs.Numbers.{arm}
use Rattle.scr_global_judge.proofs.Others.{no_other}
use Rattle.scr_global_judge.proofs.Over.{over, over_role}
use Rattle.scr_global_judge.proofs.RoleWalk.{first_unknown}
use Rattle.scr_global_judge.proofs.fault.judge.Goals as goal

pub returns-in_ok-culprit-in-DuplicateName : goal.returns-in_ok-culprit-in-DuplicateName
returns-in_ok-culprit-in-DuplicateName c =
    arm (Of (written_of c.args.file c.args.written.now)) c.args.condition conditions.DuplicateName _ c.with_name.result
    c.in-DuplicateName.is
    (subst (λ (rs : List Role). Judged DuplicateName (with_earlier (map declares c.args.written.now.types.items ++ map lists rs))
    (culprit_of c.in_ok-culprit-in-DuplicateName.culprit)) c.as_slice-roles.ensures.items
    (subst (λ (ds : List Declaration). Judged DuplicateName (with_earlier (map declares ds ++ map lists c.as_slice-roles.result.now))
    (culprit_of c.in_ok-culprit-in-DuplicateName.culprit)) c.as_slice-types.ensures.items
    c.in_ok-culprit-in-DuplicateName.ensures))
    c.with_name.ensures

pub returns-in_ok-listed-in-UnknownRole : goal.returns-in_ok-listed-in-UnknownRole
returns-in_ok-listed-in-UnknownRole c =
    arm (Of (written_of c.args.file c.args.written.now)) c.args.condition conditions.UnknownRole _ c.with_name-in-UnknownRole.result
    c.in-UnknownRole.is
    (first_unknown (map role_name c.args.written.now.roles.items) (contains_text c.in_ok-listed-in-UnknownRole.listed)
    (subst (λ (rs : List Role). (q : Name) → IsTrue (contains_text c.in_ok-listed-in-UnknownRole.listed q) ↔ Contains (map role_name rs) q)
    c.as_slice-roles.ensures.items c.in_ok-listed-in-UnknownRole.ensures)
    (statements c.args.written.now.body.items) (culprit_of c.find_unknown_role.result)
    (subst (λ (b : List GStatement). culprit_of c.find_unknown_role.result ≡ walk
    (unknown_role (contains_text c.in_ok-listed-in-UnknownRole.listed)) (statements b)) c.as_slice-body.ensures.items
    c.find_unknown_role.ensures))
    c.with_name-in-UnknownRole.ensures

pub returns-in-PeerIsSelf : goal.returns-in-PeerIsSelf
returns-in-PeerIsSelf c =
    arm (Of (written_of c.args.file c.args.written.now)) c.args.condition conditions.PeerIsSelf _ c.with_name-in-PeerIsSelf.result
    c.in-PeerIsSelf.is
    (subst (λ (b : List GStatement). Judged asks.PeerIsSelf (spots [] (statements b)) (culprit_of c.find_peer_is_self.result))
    c.as_slice-body.ensures.items c.find_peer_is_self.ensures)
    c.with_name-in-PeerIsSelf.ensures

pub returns-in_ok-culprit-in-UnknownType : goal.returns-in_ok-culprit-in-UnknownType
returns-in_ok-culprit-in-UnknownType c =
    arm (Of (written_of c.args.file c.args.written.now)) c.args.condition conditions.UnknownType _ c.with_name-in-UnknownType.result
    c.in-UnknownType.is
    (subst (λ (ms : List Carries). Judged (UnknownType c.args.written.now.types.items) (map declared c.args.written.now.types.items
    ++ flat_map carried_by (map carries_of ms)) (culprit_of c.in_ok-culprit-in-UnknownType.culprit))
    c.as_slice-carries.ensures.items
    (subst (λ (ds : List Declaration). Judged (UnknownType ds)
    (map declared ds ++ flat_map carried_by (map carries_of c.as_slice-carries.result.now))
    (culprit_of c.in_ok-culprit-in-UnknownType.culprit))
    c.as_slice-types.ensures.items c.in_ok-culprit-in-UnknownType.ensures))
    c.with_name-in-UnknownType.ensures

pub returns-in-PayloadCount : goal.returns-in-PayloadCount
returns-in-PayloadCount c =
    arm (Of (written_of c.args.file c.args.written.now)) c.args.condition conditions.PayloadCount _ c.with_name-in-PayloadCount.result
    c.in-PayloadCount.is
    (subst (λ (ms : List Carries). Judged PayloadCount (map carries_of ms) (culprit_of c.find_payload_count.result))
    c.as_slice-carries.ensures.items c.find_payload_count.ensures)
    c.with_name-in-PayloadCount.ensures

pub returns-in-UnknownRec : goal.returns-in-UnknownRec
returns-in-UnknownRec c =
    arm (Of (written_of c.args.file c.args.written.now)) c.args.condition conditions.UnknownRec _ c.with_name-in-UnknownRec.result
    c.in-UnknownRec.is
    (over asks.UnknownRec says.UnknownRec recs_known _ _ _ c.requires.outline c.find_unknown_rec.ensures) c.with_name-in-UnknownRec.ensures

pub returns-in-DuplicateRec : goal.returns-in-DuplicateRec
returns-in-DuplicateRec c =
    arm (Of (written_of c.args.file c.args.written.now)) c.args.condition conditions.DuplicateRec _ c.with_name-in-DuplicateRec.result
    c.in-DuplicateRec.is
    (over asks.DuplicateRec says.DuplicateRec recs_differ _ _ _ c.requires.outline c.find_duplicate_rec.ensures)
    c.with_name-in-DuplicateRec.ensures

pub returns-in-Unguarded : goal.returns-in-Unguarded
returns-in-Unguarded c =
    arm (Of (written_of c.args.file c.args.written.now)) c.args.condition conditions.Unguarded _ c.with_name-in-Unguarded.result
    c.in-Unguarded.is
    (over asks.Unguarded says.Unguarded guarded _ _ _ c.requires.outline c.find_unguarded.ensures) c.with_name-in-Unguarded.ensures

pub returns-in-Unreachable : goal.returns-in-Unreachable
returns-in-Unreachable c =
    arm (Of (written_of c.args.file c.args.written.now)) c.args.condition conditions.Unreachable _ c.with_name-in-Unreachable.result
    c.in-Unreachable.is
    (over asks.Unreachable says.Unreachable reachable _ _ _ c.requires.outline c.find_unreachable.ensures)
    c.with_name-in-Unreachable.ensures

pub returns-in-BranchStart : goal.returns-in-BranchStart
returns-in-BranchStart c =
    arm (Of (written_of c.args.file c.args.written.now)) c.args.condition conditions.BranchStart _ c.with_name-in-BranchStart.result
    c.in-BranchStart.is
    (over asks.BranchStart says.BranchStart starts _ _ _ c.requires.outline c.find_branch_start.ensures) c.with_name-in-BranchStart.ensures

pub returns-in-MixedChoice : goal.returns-in-MixedChoice
returns-in-MixedChoice c =
    arm (Of (written_of c.args.file c.args.written.now)) c.args.condition conditions.MixedChoice _ c.with_name-in-MixedChoice.result
    c.in-MixedChoice.is
    (over_role asks.MixedChoice says.MixedChoice uniform _ _ _ _ c.requires.role c.requires.outline c.find_mixed_choice.ensures)
    c.with_name-in-MixedChoice.ensures

pub returns-in_ok-culprit-in-SameLabel : goal.returns-in_ok-culprit-in-SameLabel
returns-in_ok-culprit-in-SameLabel c =
    arm (Of (written_of c.args.file c.args.written.now)) c.args.condition conditions.SameLabel _ c.with_name-in-SameLabel.result
    c.in-SameLabel.is
    (over_role asks.SameLabel says.SameLabel labels_differ _ _ _ _ c.requires.role c.requires.outline c.in_ok-culprit-in-SameLabel.ensures)
    c.with_name-in-SameLabel.ensures

pub returns-in_default : goal.returns-in_default
returns-in_default c =
    let o = c.in_default in
    no_other (written_of c.args.file c.args.written.now) c.args.condition o.not-DuplicateName o.not-UnknownRole o.not-PeerIsSelf o.not-UnknownType o.not-PayloadCount
    o.not-UnknownRec o.not-DuplicateRec o.not-Unguarded o.not-Unreachable o.not-BranchStart o.not-MixedChoice o.not-SameLabel
