-- What a step does that looks at no message, and for whose message one waits.
use Rattle.std.specs.Prelude.{ℕ, Option, Some, None}
use Rattle.vm_model.specs.Machine as model
use Rattle.vm_model.specs.Messages.{Messages}
use Rattle.vm_session.specs.declared.stepped.Stepped.{Stepped}
use Rattle.vm_session.specs.Doing.{Does}

-- the role for whose message a step waits
abbrev pub waits_in : model.Stepped → Option ℕ
waits_in (model.Waits peer) = Some peer
waits_in _ = None

-- What is done is what is wanted, of a step that neither looks at messages nor sends any.
abbrev pub Plays : (Messages → model.Stepped) → (m m' : model.Machine) → Stepped → Type 0
Plays wanted m m' s = (q : Messages) → Does (wanted q) m q m' q s
