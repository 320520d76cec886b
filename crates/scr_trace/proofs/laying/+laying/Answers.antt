use Rattle.scr_trace.proofs.Steps.{all_steps}
use Rattle.scr_trace.proofs.Steps.{in_steps}
use Rattle.std.proofs.Common.{OnOk, ◌≡◌, ◌∙◌, ap, subst, arith, drop, ℕ, ◌∷◌}
use Rattle.scr_tree.specs.View.{statements}
use Rattle.scr_trace.specs.inner.Laying.{Gathered, lay_in}
use Rattle.scr_trace.specs.inner.View.{number_by, known_of, work_of, gathered, bodies}
use Rattle.std.proofs.lemmas.Grind.{common_steps}
use Rattle.scr_trace.proofs.Growing.{closes}
use Rattle.scr_trace.proofs.Steps.{lay-step, lay-Message, lay-Choice, lay-Rec, lay-Continue, lay-Do, branch_said, branch_other}
use Rattle.scr_trace.proofs.laying.+laying.Goals as goal

pub lay_at-close-requires : goal.lay_at-close-requires
lay_at-close-requires t c =
    closes c.args.me.now (number_by c.args.names.now) (record { name = c.as_str-in-Rec.result.now; number = c.in_ok-number-in-Rec.number } ∷
    known_of c.args.around.now) (work_of c.args.out.now) (work_of c.open.new.self) (work_of c.lay_all.new.out)
    (statements c.as_slice-in-Rec.result.now) c.in_ok-number-in-Rec.number c.in_ok-number-in-Rec.ensures.number
    c.in_ok-number-in-Rec.ensures.opens c.in_ok-lay_all-in-Rec.ensures

pub lay_branches-returns : goal.lay_branches-returns
lay_branches-returns t c =
    let ends : c.loop-i.i ≡ 0 = omega (arith, c.loop-i-test.false) in
    c.loop-i.invariant.laid ∙ ap (λ (i : ℕ). lay_in c.args.me.now (number_by c.args.names.now) (known_of c.args.around.now) c.args.at_self
    c.args.out.now.next (gathered c.args.out.now c.args.arrows.now) (bodies (drop i c.args.branches.now))) ends

pub lay_all-loop-i-preserved : goal.lay_all-loop-i-preserved
lay_all-loop-i-preserved t c = grind (
  arith,
  common_steps,
  lay-step c.args.me.now (number_by c.args.names.now) (known_of c.args.around.now)
      (work_of c.args.out.now),
)

pub lay_at-returns-in-Message : goal.lay_at-returns-in-Message
lay_at-returns-in-Message t c =
    grind (
      arith,
      common_steps,
      lay-Message c.args.me.now (number_by c.args.names.now) (known_of c.args.around.now)
          (work_of c.args.out.now),
    )

pub lay_at-returns-in_ok-lay_branches-in-Choice : goal.lay_at-returns-in_ok-lay_branches-in-Choice
lay_at-returns-in_ok-lay_branches-in-Choice t c =
    grind (arith, common_steps, lay-Choice c.args.me.now (number_by c.args.names.now) (known_of c.args.around.now) (work_of c.args.out.now))

pub lay_at-returns-in_ok-lay_all-in-Rec : goal.lay_at-returns-in_ok-lay_all-in-Rec
lay_at-returns-in_ok-lay_all-in-Rec t c =
    grind (arith, common_steps, lay-Rec c.args.me.now (number_by c.args.names.now) (known_of c.args.around.now) (work_of c.args.out.now))

pub lay_at-returns-in-Continue : goal.lay_at-returns-in-Continue
lay_at-returns-in-Continue t c =
    grind (
      arith,
      common_steps,
      lay-Continue c.args.me.now (number_by c.args.names.now) (known_of c.args.around.now)
          (work_of c.args.out.now),
    )

pub lay_at-returns-in-Do : goal.lay_at-returns-in-Do
lay_at-returns-in-Do t c = grind (
  arith,
  common_steps,
  lay-Do c.args.me.now (number_by c.args.names.now) (known_of c.args.around.now)
      (work_of c.args.out.now),
)

pub lay_branch-returns : goal.lay_branch-returns
lay_branch-returns t c =
    subst (λ (g : Gathered). OnOk c.join.result (gathered c.join.new.out c.join.new.arrows ≡ g))
    (branch_said c.args.me.now (number_by c.args.names.now) (known_of c.args.around.now) (work_of c.args.out.now) c.args.branch.now
    c.in-Some.rest.now c.in-Some.statement.now c.args.at_self c.in-Message.message
    (gathered c.args.out.now c.args.arrows.now) (work_of c.lay_all.new.out) c.in-Some.ensures.cases.0 c.in-Message.is
    c.in_ok-lay_all.ensures)
    c.join.ensures

pub lay_branch-returns-in_default-statement : goal.lay_branch-returns-in_default-statement
lay_branch-returns-in_default-statement t c =
    branch_other c.args.me.now (number_by c.args.names.now) (known_of c.args.around.now) (work_of c.args.out.now) c.args.branch.now
    c.in-Some.rest.now c.in-Some.statement.now c.args.at_self (gathered c.args.out.now c.args.arrows.now) c.in-Some.ensures.cases.0
    c.in_default-statement.not-Message

pub lay_all-loop-i-init : goal.lay_all-loop-i-init
lay_all-loop-i-init t c = grind (arith, all_steps)

pub lay_branch-returns-in_default : goal.lay_branch-returns-in_default
lay_branch-returns-in_default t c = grind (arith, common_steps)

pub lay_branches-loop-i-init : goal.lay_branches-loop-i-init
lay_branches-loop-i-init t c = grind (arith, in_steps)

pub lay_branches-loop-i-preserved : goal.lay_branches-loop-i-preserved
lay_branches-loop-i-preserved t c = grind (arith, in_steps)
