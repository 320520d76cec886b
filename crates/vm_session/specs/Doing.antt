-- What a step of the program does, beside what the definitions say.
use Rattle.std.specs.Prelude.{◌≡◌}
use Rattle.vm_model.specs.Machine as model
use Rattle.vm_model.specs.Messages.{Messages}
use Rattle.vm_session.specs.declared.stepped.Stepped.{Stepped}
use Rattle.vm_session.specs.declared.stepped.Stepped.TheVariants as stepped

-- The wanted step leads from a machine and messages to others, with at most one event;
-- one that waits or ends the run leaves both as they were.
abbrev pub Does : model.Stepped → (m : model.Machine) (q : Messages) (m' : model.Machine) (q' : Messages) → Stepped → Type 0
Does wanted m q m' q' (stepped.Went event) = wanted ≡ model.Went m' q' event
Does wanted m q m' q' (stepped.Waits peer) = (wanted ≡ model.Waits peer) × (m' ≡ m) × (q' ≡ q)
Does wanted m q m' q' (stepped.Ended ending) = (wanted ≡ model.Stops ending) × (m' ≡ m) × (q' ≡ q)
