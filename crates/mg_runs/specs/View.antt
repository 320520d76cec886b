-- What running the roles of a command may answer.
use Rattle.std.specs.Prelude.{◌≡◌, ℕ, List, [], map, Bool, if◌then◌else◌}
use Rattle.mg_sources.specs.Files.{Source}
use Rattle.vm_world_law.specs.declared.role.RoleMain.{RoleMain}
use Rattle.vm_world_law.specs.Turns.{stands_in}
use Rattle.mg_trace.specs.Trace.{trace, printed}
use Rattle.mg_runs.specs.declared.ran.Ran.{Ran}
use Rattle.mg_runs.specs.Runs.{names_of, messages_in}
use Rattle.mg_runs.specs.Headline.{Course, IsCourse}

-- The class files of a run, how many instructions each role took and how it stands, what was printed, each text behind the name of its role
-- where that is asked for, the trace where it is asked for, and how many messages were sent.
pub record Shows (mains : List RoleMain) (named traced : Bool) (run : Course) (shown : Ran) : Type 0 where
  pub written : shown.files.items ≡ run.written
  pub counts : map (λ r. r.instructions) shown.roles.items ≡ map (λ r. r.count) run.last.roles
  pub stands : map (λ r. r.stand) shown.roles.items ≡ stands_in run.program run.last
  pub printed_is : shown.printed ≡ printed named (names_of mains) run.last.events
  pub trace_is : shown.trace ≡ (if traced then trace run.core (names_of mains) run.last.events else [])
  pub messages_are : shown.messages ≡ messages_in run.last.events

-- some course of these files is shown
pub record IsOfRun (files : List Source) (mains : List RoleMain) (order : List ℕ) (limit : ℕ) (named traced : Bool) (shown : Ran) : Type 0
  where
    pub run : Course
    pub is : IsCourse files mains order limit run
    pub shows : Shows mains named traced run shown
