use Rattle.vm_world_law.proofs.Turns as turns
use Rattle.vm_world_law.proofs.Stopping as stopping
use Rattle.vm_world_law.proofs.one_run.Goals as goal

pub returns-clause-one : goal.returns-clause-one
returns-clause-one c = turns.one_run

pub returns-clause-some : goal.returns-clause-some
returns-clause-some c = stopping.runs_stop

pub returns-clause-still : goal.returns-clause-still
returns-clause-still c = turns.still_rounds_rest

pub returns-clause-rest : goal.returns-clause-rest
returns-clause-rest c = turns.rest_is_no_bound
