-- Steps that are taken alone, by the definitions of the crate below.
pub use Rattle.vm_typed.specs.Alone.{SameMethod, Quiet, Alone, Stays, Runs, Leads, StepAlone, LeadsAlone, Tried, Keeps, AllAlone}
