-- For private clauses: which events send.
use Rattle.std.specs.Prelude.{Bool, true, false}
use Rattle.vm_events.specs.declared.kind.Kind.{Kind}
use Rattle.vm_events.specs.declared.kind.Kind.TheVariants as kinds

-- events of this kind send a message
abbrev pub sends : Kind → Bool
sends kinds.Send = true
sends _ = false
