use Rattle.std.proofs.Common.{true, false, sym, refl, ◌∙◌}
use Rattle.mg_top.proofs.CommandLemmas.{status_by}
use Rattle.mg_top.proofs.run.status_of.Goals as goal

pub returns-then-any_bound : goal.returns-then-any_bound
returns-then-any_bound c = status_by c.args.roles.now true _ _ _ _ (sym c.if-any_bound.true ∙ c.any_bound.ensures) refl refl refl refl

pub returns-then-any_broken : goal.returns-then-any_broken
returns-then-any_broken c =
    status_by c.args.roles.now false true _ _ _ (sym c.if-any_bound.false ∙ c.any_bound.ensures)
    (sym c.if-any_broken.true ∙ c.any_broken.ensures) refl refl refl

pub returns-then-any_zero : goal.returns-then-any_zero
returns-then-any_zero c =
    status_by c.args.roles.now false false true _ _ (sym c.if-any_bound.false ∙ c.any_bound.ensures)
    (sym c.if-any_broken.false ∙ c.any_broken.ensures)
    (sym c.if-any_zero.true ∙ c.any_zero.ensures) refl refl

pub returns-then-any_mismatch : goal.returns-then-any_mismatch
returns-then-any_mismatch c =
    status_by c.args.roles.now false false false true _ (sym c.if-any_bound.false ∙ c.any_bound.ensures)
    (sym c.if-any_broken.false ∙ c.any_broken.ensures)
    (sym c.if-any_zero.false ∙ c.any_zero.ensures) (sym c.if-any_mismatch.true ∙ c.any_mismatch.ensures) refl

pub returns-then-any_waiting : goal.returns-then-any_waiting
returns-then-any_waiting c =
    status_by c.args.roles.now false false false false true (sym c.if-any_bound.false ∙ c.any_bound.ensures)
    (sym c.if-any_broken.false ∙ c.any_broken.ensures)
    (sym c.if-any_zero.false ∙ c.any_zero.ensures) (sym c.if-any_mismatch.false ∙ c.any_mismatch.ensures)
    (sym c.if-any_waiting.true ∙ c.any_waiting.ensures)

pub returns-else-any_waiting : goal.returns-else-any_waiting
returns-else-any_waiting c =
    status_by c.args.roles.now false false false false false (sym c.if-any_bound.false ∙ c.any_bound.ensures)
    (sym c.if-any_broken.false ∙ c.any_broken.ensures)
    (sym c.if-any_zero.false ∙ c.any_zero.ensures) (sym c.if-any_mismatch.false ∙ c.any_mismatch.ensures)
    (sym c.if-any_waiting.false ∙ c.any_waiting.ensures)
