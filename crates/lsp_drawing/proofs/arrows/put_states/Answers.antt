-- The states that the loop went over are all of them.
use Rattle.std.proofs.Common.{◌++◌, ◌∙◌, List, string_bytes, map, sym, ap}
use Rattle.std.specs.List.{flat_map}
use Rattle.std.proofs.lemmas.List.{take_all}
use Rattle.std.proofs.lemmas.List.Folds.{flat_map-map}
use Rattle.ts_tree.specs.declared.parts.State.{State}
use Rattle.ts_tree.specs.View.{state_of}
use Rattle.lsp_drawing.specs.Diagrams.{state_arrows}
use Rattle.lsp_drawing.proofs.arrows.put_states.Goals as goal

pub returns : goal.returns
returns c =
    c.loop-state.invariant
    ∙ ap (λ (xs : List State). string_bytes c.args.out.now ++ flat_map (λ s. state_arrows (map state_of c.args.states.now) (state_of s)) xs)
    (take_all c.loop-state.state-index c.args.states.now c.loop-state-test.false)
    ∙ ap (λ t. string_bytes c.args.out.now ++ t)
    (sym (flat_map-map (state_arrows (map state_of c.args.states.now)) state_of c.args.states.now))
