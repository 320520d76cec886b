use Rattle.std.proofs.Common.{◌++◌, ◌∷◌, [], ap, ◌∙◌}
use Rattle.std.specs.Prelude.{map}
use Rattle.std.proofs.lemmas.List.{map_push}
use Rattle.jv_core.specs.View.{slot_of, loop_of}
use Rattle.jv_resolve.proofs.StmtSteps.{with_slots, one_loop}
use Rattle.jv_resolve.proofs.body.Body.add_loop.Goals as goal

pub returns-clause-added : goal.returns-clause-added
returns-clause-added c =
    ap (with_slots c.args.self.now.names (map slot_of c.args.self.now.slots.items))
    (ap (map loop_of) c.in_ok-push.ensures.ok ∙ map_push loop_of c.args.self.now.loops.items
    (record { place = c.args.place; scope = c.in_ok-scope.scope })
    ∙ ap (λ slots. map loop_of c.args.self.now.loops.items ++ one_loop c.args.place slots ∷ []) c.in_ok-scope.ensures)
