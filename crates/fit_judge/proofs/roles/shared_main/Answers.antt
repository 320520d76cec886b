use Rattle.std.proofs.Common.{◌≡◌, codes, ap, sym, ◌∙◌, arith, true≢false, string_bytes}
use Rattle.std.specs.HashSet.{contains_text}
use Rattle.mg_read.proofs.Scanning.{left_start, left_end, left_here, left_later}
use Rattle.mg_refusal.specs.Refusals.{refusal_nowhere}
use Rattle.vm_world_law.specs.declared.role.RoleMain.{RoleMain}
use Rattle.mg_fits.specs.Conditions.{SharesMain}
use Rattle.scr_judge.proofs.Duplicates.{has_none, has_one_more, true_from_not, false_from_not}
use Rattle.fit_judge.proofs.roles.shared_main.Goals as goal

pub loop-main-init : goal.loop-main-init
loop-main-init c = record {
  names = has_none _ c.no_names-classes.ensures;
  left = λ global parts core. left_start (SharesMain global parts core c.args.mains.now) c.args.mains.now;
}

pub returns-then-not-branch : goal.returns-then-not-branch
returns-then-not-branch c global parts core =
    let same : string_bytes c.in_ok-class.class ≡ c.main-item.result.class = c.in_ok-class.ensures.ok ∙ c.as_str.ensures in
    left_here (SharesMain global parts core c.args.mains.now) (c.loop-main.invariant.left global parts core) c.main-item.result
    c.loop-main-test.true c.main-item.is c.nowhere.result (
      (c.loop-main.invariant.names.each c.main-item.result.class).0 (ap (contains_text c.loop-main.classes) (sym same)
          ∙ true_from_not _ (sym c.in_ok-add_name.ensures.new ∙ c.if-not-branch.true)),
      c.nowhere.ensures ∙ ap (refusal_nowhere (codes "SharedMain")) c.in_ok-copy.ensures,
    )

pub loop-main-preserved : goal.loop-main-preserved
loop-main-preserved c =
    let same : string_bytes c.in_ok-class.class ≡ c.main-item.result.class = c.in_ok-class.ensures.ok ∙ c.as_str.ensures in
    record {
      names = has_one_more (λ (m : RoleMain). m.class) (contains_text c.loop-main.classes) c.args.mains.now c.loop-main.main-index
          c.main-item.result c.loop-main-test.true c.main-item.is c.loop-main.invariant.names
          (string_bytes c.in_ok-class.class) same (contains_text c.add_name.new.names) c.in_ok-add_name.ensures.names;
      left = λ global parts core.
          left_later (SharesMain global parts core c.args.mains.now) (c.loop-main.invariant.left global parts core) c.main-item.result
          c.loop-main-test.true c.main-item.is
          (λ r a. true≢false (sym ((c.loop-main.invariant.names.each c.main-item.result.class).1 a.0)
          ∙ ap (contains_text c.loop-main.classes) (sym same)
          ∙ false_from_not _ (sym c.in_ok-add_name.ensures.new ∙ c.if-not-branch.false)));
    }

pub returns : goal.returns
returns c global parts core = left_end (SharesMain global parts core c.args.mains.now) (c.loop-main.invariant.left global parts core) (omega arith)
