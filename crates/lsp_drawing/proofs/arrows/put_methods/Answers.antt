-- The methods that the loop went over are all of them.
use Rattle.std.proofs.Common.{◌++◌, ◌∙◌, List, string_bytes, map, sym, ap}
use Rattle.std.specs.List.{flat_map}
use Rattle.std.proofs.lemmas.List.{take_all}
use Rattle.std.proofs.lemmas.List.Folds.{flat_map-map}
use Rattle.ts_tree.specs.declared.parts.Method.{Method}
use Rattle.ts_tree.specs.View.{method_of, state_of}
use Rattle.lsp_drawing.specs.Diagrams.{method_arrows}
use Rattle.lsp_drawing.proofs.arrows.put_methods.Goals as goal

pub returns : goal.returns
returns c =
    c.loop-method.invariant
    ∙ ap (λ (xs : List Method). string_bytes c.args.out.now
    ++ flat_map (λ m. method_arrows (map state_of c.args.states.now) c.args.from.now (method_of m)) xs)
    (take_all c.loop-method.method-index c.args.methods.now c.loop-method-test.false)
    ∙ ap (λ t. string_bytes c.args.out.now ++ t)
    (sym (flat_map-map (method_arrows (map state_of c.args.states.now) c.args.from.now) method_of c.args.methods.now))
