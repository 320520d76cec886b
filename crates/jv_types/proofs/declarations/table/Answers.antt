use Rattle.std.proofs.Common.{Some, None}
use Rattle.jv_rules.specs.Faults.{IsTableFault}
use Rattle.jv_types.specs.Tables.{program_in}
use Rattle.jv_types.specs.View.{program_of}
use Rattle.jv_types.specs.inner.Deciding.{IsLater}
use Rattle.jv_types.proofs.Answering.{later_as, told_one, one_more}
use Rattle.jv_types.proofs.declarations.table.Goals as goal

pub returns-in-Err-clause-fault : goal.returns-in-Err-clause-fault
returns-in-Err-clause-fault c =
    told_one (IsTableFault (program_of c.args.files.now c.args.typestates.now) c.args.origins.now) c.in-Err.wrong c.fault_of.result
    c.fault_of.ensures c.in-Err.ensures.fault

pub returns-in-Err-check_tables-clause-fault : goal.returns-in-Err-check_tables-clause-fault
returns-in-Err-check_tables-clause-fault c =
    told_one (IsTableFault (program_of c.args.files.now c.args.typestates.now) c.args.origins.now) c.in-Err-check_tables.wrong
    c.fault_of-in-Err-check_tables.result c.fault_of-in-Err-check_tables.ensures
    (one_more (IsLater (program_in c.in-Ok.table)) (IsTableFault (program_of c.args.files.now c.args.typestates.now) c.args.origins.now)
    (λ f. later_as c.args.files.now c.args.typestates.now c.args.origins.now c.in-Ok.ensures.fine (program_in c.in-Ok.table)
    c.in-Ok.ensures.program (Some f)) c.in-Err-check_tables.wrong c.in-Err-check_tables.ensures.fault)

pub returns-clause-fine : goal.returns-clause-fine
returns-clause-fine c =
    later_as c.args.files.now c.args.typestates.now c.args.origins.now c.in-Ok.ensures.fine (program_in c.in-Ok.table)
    c.in-Ok.ensures.program None c.in-Ok-check_tables.ensures.fine
