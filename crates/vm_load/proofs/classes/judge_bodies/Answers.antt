use Rattle.std.proofs.Common.{rules, ◌<◌, ◌≤◌, ◌++◌, length, map, sym, ap, ◌∙◌, append-nil}
use Rattle.std.specs.List.{flat_map}
use Rattle.cls_tree.specs.View.{member_of}
use Rattle.vm_model.specs.View.{method_of}
use Rattle.vm_model.specs.Links.{lower, least, method_of_member, method_flaws}
use Rattle.vm_load.specs.Faults.{best_flaw}
use Rattle.vm_load.specs.Outlines.{outlines_of}
use Rattle.vm_load.proofs.ClassLaws.{rights_next, flaws_next, flaws_whole}
use Rattle.vm_load.proofs.Codes.{drop_whole}
use Rattle.vm_load.proofs.Loads.{flat_map-map}
use Rattle.vm_load.proofs.classes.judge_bodies.Goals as goal

pub loop-member-preserved : goal.loop-member-preserved
loop-member-preserved c =
    let members = c.as_slice-members.result.now in
    let pool = c.as_slice-pool.result.now in
    let within : c.loop-member.member-index < length members = search rules in
    record {
      right = rights_next members c.loop-member.member-index c.member-item.result within
          (λ m. method_of_member (outlines_of c.args.outlines.now) pool (member_of m))
          (map method_of c.loop-member.methods.items) _ _ c.loop-member.invariant.right
          (c.in_ok-judge_body.ensures.right
          ∙ ap (λ m. map method_of c.loop-member.methods.items ++ method_of_member (outlines_of c.args.outlines.now) pool (member_of m))
          c.member-item.is);
      wrong = flaws_next members c.loop-member.member-index c.member-item.result within
          (λ m. method_flaws (outlines_of c.args.outlines.now) pool (member_of m)) (best_flaw c.loop-member.best) _ _
          c.loop-member.invariant.wrong
          (c.in_ok-judge_body.ensures.wrong
          ∙ ap (λ m. lower (best_flaw c.loop-member.best) (least (method_flaws (outlines_of c.args.outlines.now) pool (member_of m))))
          c.member-item.is);
      known = c.in_ok-judge_body.ensures.known;
    }

pub returns-clause-right : goal.returns-clause-right
returns-clause-right c =
    let members = c.as_slice-members.result.now in
    let pool = c.as_slice-pool.result.now in
    let past : length members ≤ c.loop-member.member-index = search rules in
    sym (append-nil (map method_of c.loop-member.methods.items))
    ∙ ap (λ l. map method_of c.loop-member.methods.items
    ++ flat_map (λ m. method_of_member (outlines_of c.args.outlines.now) pool (member_of m)) l)
    (sym (drop_whole members c.loop-member.member-index past))
    ∙ c.loop-member.invariant.right ∙ sym (flat_map-map (method_of_member (outlines_of c.args.outlines.now) pool) member_of members)
    ∙ ap (λ p. flat_map (method_of_member (outlines_of c.args.outlines.now) p) (map member_of members)) c.as_slice-pool.ensures.items
    ∙ ap (λ ms. flat_map (method_of_member (outlines_of c.args.outlines.now) c.args.class.now.pool.items) (map member_of ms))
    c.as_slice-members.ensures.items

pub returns-clause-wrong : goal.returns-clause-wrong
returns-clause-wrong c =
    let members = c.as_slice-members.result.now in
    let pool = c.as_slice-pool.result.now in
    let past : length members ≤ c.loop-member.member-index = search rules in
    flaws_whole members c.loop-member.member-index past (λ m. method_flaws (outlines_of c.args.outlines.now) pool (member_of m))
    (best_flaw c.loop-member.best) _ c.loop-member.invariant.wrong
    ∙ ap (λ l. lower (best_flaw c.args.best.now) (least l))
    (sym (flat_map-map (method_flaws (outlines_of c.args.outlines.now) pool) member_of members)
    ∙ ap (λ p. flat_map (method_flaws (outlines_of c.args.outlines.now) p) (map member_of members)) c.as_slice-pool.ensures.items
    ∙ ap (λ ms. flat_map (method_flaws (outlines_of c.args.outlines.now) c.args.class.now.pool.items) (map member_of ms))
    c.as_slice-members.ensures.items)
