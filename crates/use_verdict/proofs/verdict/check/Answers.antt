use Rattle.std.proofs.Common.{refl, sym, subst, ◌∙◌}
use Rattle.std.proofs.lemmas.Result.{err_from_is_err_and}
use Rattle.use_verdict.specs.Faults.{IsFault}
use Rattle.use_verdict.proofs.Failing.{is_answer, is_fault, none_fails}
use Rattle.use_verdict.proofs.verdict.check.Goals as goal

pub first_in-requires-clause-made : goal.first_in-requires-clause-made
first_in-requires-clause-made c = c.in_ok-tables.ensures.made

pub first_in-requires-clause-known : goal.first_in-requires-clause-known
first_in-requires-clause-known c = c.contexts.ensures

pub returns-in_err-tables : goal.returns-in_err-tables
returns-in_err-tables c =
    let p = err_from_is_err_and c.from_residual.result c.from_residual.ensures.1 in
    rw (p.1, p.2) (record { accepted = tt; complete = λ a. refl; fault = tt })

pub returns-in_err-demand : goal.returns-in_err-demand
returns-in_err-demand c =
    let p = err_from_is_err_and c.from_residual-in_err-demand.result c.from_residual-in_err-demand.ensures.1 in
    rw (p.1, p.2) (record { accepted = tt; complete = λ a. refl; fault = tt })

pub invariant_of-result : goal.invariant_of-result
invariant_of-result c = record {
  answer = ∣ record {
    program = c.args.core.now;
    answer = is_answer c.args.core.now c.in_ok-tables.tables c.in_ok-tables.ensures.made c.in_ok-tables.ensures.least
        (sym c.in_default.is ∙ c.in_ok-demand.ensures);
  } ∣₁;
}

pub returns : goal.returns
returns c = record {
  accepted = is_answer c.args.core.now c.in_ok-tables.tables c.in_ok-tables.ensures.made c.in_ok-tables.ensures.least
      (sym c.in_default.is ∙ c.in_ok-demand.ensures);
  complete = λ a. tt;
  fault = tt;
}

pub returns-in-Some : goal.returns-in-Some
returns-in-Some c =
    let p = c.args.core.now in
    record {
      accepted = tt;
      complete = λ a. absurd (none_fails p c.in_ok-tables.tables c.in-Some.demand c.in_ok-tables.ensures.made c.in_ok-tables.ensures.least
          (sym c.in-Some.is ∙ c.in_ok-demand.ensures) a);
      fault = subst (IsFault p) (sym c.fault_of.ensures)
          (is_fault p c.in_ok-tables.tables c.in-Some.demand c.in_ok-tables.ensures.made c.in_ok-tables.ensures.least
          (sym c.in-Some.is ∙ c.in_ok-demand.ensures));
    }
