-- For private clauses: which events print.
use Rattle.std.specs.Prelude.{Bool, true, false}
use Rattle.vm_events.specs.declared.kind.Kind.{Kind}
use Rattle.vm_events.specs.declared.kind.Kind.TheVariants as kinds

-- events of this kind print a text
abbrev pub is_print : Kind → Bool
is_print kinds.Print = true
is_print _ = false
