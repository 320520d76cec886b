-- The methods that the loop goes over are those of the state in the view.
use Rattle.std.proofs.Common.{◌≡◌, ◌∙◌, sym, map, Some, None, arith}
use Rattle.std.proofs.lemmas.Grind.{common_steps}
use Rattle.ts_tree.specs.Calls.{offered_in}
use Rattle.ts_tree.specs.View.{method_of}
use Rattle.ts_tree.proofs.Searches.{next_by, searches}
use Rattle.ts_tree.proofs.typestate.Typestate.next.Goals as goal

pub returns-then-eq : goal.returns-then-eq
returns-then-eq c =
    let found : offered_in (map method_of c.as_slice-offered-items.result.now) c.args.method.now ≡ Some (method_of c.offered-item.result) =
    grind (arith, common_steps, searches) in
    c.led_by.ensures ∙ sym (next_by c.args.self.now c.self.inside.name c.self.inside.states.items _ c.args.q _ _ c.args.method.now _ _
    c.self.view_is c.requires c.as_slice.ensures.items c.index-as_slice-q.is c.as_slice-offered-items.ensures.items found)

pub returns : goal.returns
returns c =
    let found : offered_in (map method_of c.as_slice-offered-items.result.now) c.args.method.now ≡ None =
    grind (arith, common_steps, searches) in
    sym (next_by c.args.self.now c.self.inside.name c.self.inside.states.items _ c.args.q _ _ c.args.method.now _ _ c.self.view_is
    c.requires c.as_slice.ensures.items c.index-as_slice-q.is c.as_slice-offered-items.ensures.items found)
