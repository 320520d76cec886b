use Rattle.std.proofs.Common.{◌≡◌, ◌++◌, string_bytes, map, drop}
use Rattle.jv_core.specs.View.{slot_of}
use Rattle.gen_members.specs.Slots.{slots_text}
use Rattle.gen_members.proofs.descriptors.put_params.Given as goal

abbrev pub invariant-loop-param : goal.invariant-loop-param
invariant-loop-param l =
    string_bytes l.out ++ slots_text l.fn.core (map slot_of (drop l.param-index l.params))
    ≡ string_bytes l.fn.out ++ slots_text l.fn.core (map slot_of l.fn.params)
