use Rattle.std.proofs.Common.{None}
use Rattle.std.proofs.lemmas.Result.{err_from_is_err_and}
use Rattle.jv_rules.specs.Faults.{IsFault, IsWellTyped}
use Rattle.jv_types.specs.Outcome.{TellsFault}
use Rattle.jv_types.specs.Tables.{program_in}
use Rattle.jv_types.specs.View.{program_of}
use Rattle.jv_types.specs.Whole.{IsTypeFault}
use Rattle.jv_types.proofs.ParamSteps.{on_ok}
use Rattle.jv_types.proofs.MethodSteps.{if_wrong, well_typed, declarations_told, methods_told}
use Rattle.jv_types.proofs.program.judge.Goals as goal

pub returns-in_err-table-clause-fault : goal.returns-in_err-table-clause-fault
returns-in_err-table-clause-fault c =
    let r = err_from_is_err_and c.from_residual.result c.from_residual.ensures.1 in
    rw (r.1, r.2) (declarations_told (program_of c.args.files.now c.args.typestates.now) c.args.origins.now c.in_err-table.field-0.0
    c.in_err-table.ensures.fault)

pub returns-clause-fine : goal.returns-clause-fine
returns-clause-fine c =
    on_ok (IsFault (program_in c.in_ok-table.table) None) (IsWellTyped (program_of c.args.files.now c.args.typestates.now))
    c.type_check.result
    (well_typed (program_of c.args.files.now c.args.typestates.now) c.args.origins.now c.requires c.in_ok-table.ensures.fine
    (program_in c.in_ok-table.table) c.in_ok-table.ensures.program)
    c.type_check.ensures.fine

pub returns-clause-fault : goal.returns-clause-fault
returns-clause-fault c =
    if_wrong (TellsFault (IsFault (program_in c.in_ok-table.table)))
    (TellsFault (IsTypeFault (program_of c.args.files.now c.args.typestates.now) c.args.origins.now)) c.type_check.result
    (methods_told (program_of c.args.files.now c.args.typestates.now) c.args.origins.now c.in_ok-table.ensures.fine
    (program_in c.in_ok-table.table) c.in_ok-table.ensures.program)
    c.type_check.ensures.fault
