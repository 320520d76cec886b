use Rattle.std.proofs.Common.{Some, subst, sym, ◌∙◌, arith}
use Rattle.mg_read.specs.First.{Judged, with_earlier}
use Rattle.mg_read.proofs.Scanning.{left_start, left_end}
use Rattle.mg_read.specs.Culprit.{culprit}
use Rattle.scr_judge.specs.inner.Listed.{ListedTwice}
use Rattle.scr_judge.specs.inner.Seen.{noted_in}
use Rattle.scr_tree.specs.Written.{role_name}
use Rattle.scr_judge.proofs.Duplicates.{has_none, has_one_more, repeated_role, new_role}
use Rattle.scr_judge.proofs.roles.find_listed_twice.Goals as goal

pub loop-role-init : goal.loop-role-init
loop-role-init c = record { names = has_none _ c.in_ok-names.ensures; left = left_start ListedTwice c.args.roles.now }

pub returns-then-not-branch : goal.returns-then-not-branch
returns-then-not-branch c =
    subst (λ n. Judged ListedTwice (with_earlier c.args.roles.now) (Some (culprit c.role-item.result.place n)))
    (sym c.as_str-then-not-branch.ensures)
    (repeated_role (noted_in c.loop-role.names) c.args.roles.now c.loop-role.role-index c.role-item.result c.loop-role-test.true
    c.role-item.is c.loop-role.invariant.names
    c.as_str.result.now c.as_str.ensures c.loop-role.invariant.left (sym c.in_ok-note_name.ensures.new ∙ c.if-not-branch.true))

pub loop-role-preserved : goal.loop-role-preserved
loop-role-preserved c = record {
  names = has_one_more role_name (noted_in c.loop-role.names) c.args.roles.now c.loop-role.role-index c.role-item.result
      c.loop-role-test.true c.role-item.is c.loop-role.invariant.names
      c.as_str.result.now c.as_str.ensures (noted_in c.note_name.new.names) c.in_ok-note_name.ensures.names;
  left = new_role (noted_in c.loop-role.names) c.args.roles.now c.loop-role.role-index c.role-item.result c.loop-role-test.true
      c.role-item.is c.loop-role.invariant.names
      c.as_str.result.now c.as_str.ensures c.loop-role.invariant.left (sym c.in_ok-note_name.ensures.new ∙ c.if-not-branch.false);
}

pub returns : goal.returns
returns c = left_end ListedTwice c.loop-role.invariant.left (omega arith)
