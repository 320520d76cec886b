-- The types of parameters in a descriptor.
use Rattle.std.specs.Prelude.{ℕ, List}
use Rattle.std.specs.List.{flat_map}
use Rattle.jv_core.specs.Tree.{Slot, Program}
use Rattle.vm_model.specs.Types.{type_text}
use Rattle.gen_rules.specs.Members.{type_in}

-- one after another
abbrev pub slots_text : Program → List Slot → List ℕ
slots_text p slots = flat_map (λ s. type_text (type_in p s.ty)) slots
