use Rattle.std.proofs.Common.{◌≡◌, ◌++◌, drop, map}
use Rattle.mg_text.specs.declared.names.Name.{Name}
use Rattle.jv_core.specs.Lookup.{text_at}
use Rattle.jv_core.specs.View.{method_of}
use Rattle.use_flow.specs.inner.Followed.{seen}
use Rattle.use_flow.specs.inner.Switching.{led_set}
use Rattle.use_flow.proofs.scene.Scene.led_sets.Given as goal

abbrev pub invariant-loop-constant : goal.invariant-loop-constant
invariant-loop-constant l =
    l.sets.items ++ map (λ (c : Name). led_set (seen l.self) l.fn.receiver (method_of l.method) l.set (text_at (seen l.self).program c.0))
    (drop l.constant-index l.constants)
    ≡ map (λ (c : Name). led_set (seen l.self) l.fn.receiver (method_of l.method) l.set (text_at (seen l.self).program c.0)) l.constants
