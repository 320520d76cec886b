use Rattle.std.proofs.Common.{◌≡◌, ◌++◌, string_bytes}
use Rattle.std.specs.Prelude.{option_map}
use Rattle.mg_sets.specs.Sets.{members}
use Rattle.use_elements.specs.Mappings.{typestate_or_end}
use Rattle.lsp_sights.specs.Texts.{state_lines}
use Rattle.lsp_sights.proofs.told.put_states.Given as goal

abbrev pub invariant-loop-element : goal.invariant-loop-element
invariant-loop-element l =
    let t = typestate_or_end (option_map (λ t. t.now) l.typestate) in
    string_bytes l.out ++ state_lines t l.element-iterator ≡ string_bytes l.initial.out ++ state_lines t (members l.set)
