use Rattle.mg_faults.proofs.readings.refused.Goals as goal

pub returns-in-Err-Refused : goal.returns-in-Err-Refused
returns-in-Err-Refused c = rw c.in-Err-Refused.field-0-is at c.in-Err-Refused.ensures
