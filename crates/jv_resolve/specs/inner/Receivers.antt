-- What the receivers of calls say as trees.
use Rattle.jv_resolve_law.specs.Expressions.{Receiver as Target, OnThis, OnClass, OnValue}
use Rattle.jv_resolve.specs.declared.calls.Receiver.{Receiver}
use Rattle.jv_resolve.specs.declared.calls.Receiver.TheVariants as kept
use Rattle.jv_resolve.specs.inner.Seen.{operand_seen}

abbrev pub receiver_seen : Receiver → Target
receiver_seen kept.This = OnThis
receiver_seen (kept.Class name) = OnClass name.now
receiver_seen (kept.Value o) = OnValue (operand_seen o)
