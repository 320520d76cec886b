use Rattle.std.proofs.Common.{refl}
use Rattle.scr_trace.proofs.Walks.{done_finished, finished_done, done_complete, complete_done}
use Rattle.scr_trace.proofs.walk.Walk.done.Goals as goal

pub returns-in-End-clause-finished : goal.returns-in-End-clause-finished
returns-in-End-clause-finished c = λ tree position h. (λ e. done_finished tree c.args.self.now position h c.in-End.is, λ f. refl)

pub returns-in-End-clause-complete : goal.returns-in-End-clause-complete
returns-in-End-clause-complete c = λ tree calls h. (λ e. done_complete tree c.args.self.now calls h c.in-End.is, λ f. refl)

pub returns-in-State-clause-finished : goal.returns-in-State-clause-finished
returns-in-State-clause-finished c =
    λ tree position h. (λ e. cc e, λ f. let g = finished_done tree c.args.self.now position h f in let i = c.in-State.is in cc)

pub returns-in-State-clause-complete : goal.returns-in-State-clause-complete
returns-in-State-clause-complete c =
    λ tree calls h. (λ e. cc e, λ f. let g = complete_done tree c.args.self.now calls h f in let i = c.in-State.is in cc)
