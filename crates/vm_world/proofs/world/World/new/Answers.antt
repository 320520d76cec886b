use Rattle.std.proofs.Common.{◌≡◌, ◌<◌, ◌^◌, List, length, sym, ap, subst, ◌∙◌}
use Rattle.std.proofs.lemmas.List.{length-map}
use Rattle.mg_text.specs.Call.{Name}
use Rattle.vm_model.specs.Messages.{no_messages}
use Rattle.vm_world.proofs.Typed.{new_suits}
use Rattle.vm_world.proofs.world.World.new.Goals as goal

pub returns-clause-begun : goal.returns-clause-begun
returns-clause-begun c = record {
  distinct = c.requires.distinct;
  messages = c.in_ok-ports.ensures ∙ ap (λ (l : List Name). no_messages l) (c.as_slice.ensures.items ∙ c.in_ok-names.ensures);
  unseen = c.in_ok-names_of_methods.ensures.items ∙ c.in_ok-events.ensures.items;
  roles = c.in_ok-roles.ensures.begun;
}

pub invariant_of-result : goal.invariant_of-result
invariant_of-result c =
    let many : length c.as_slice.result.now ≡ length c.in_ok-roles.roles.items =
    ap length (c.as_slice.ensures.items ∙ c.in_ok-names.ensures) ∙ length-map c.args.mains.now _ ∙ sym c.in_ok-roles.ensures.many in (
      (
        subst (λ n. n < 2 ^ 32) many c.as_slice.ensures.bound,
        new_suits c.args.linked c.in_ok-flat.flat c.args.mains.now _ c.in_ok-flat.ensures c.in_ok-roles.ensures.begun,
      ),
      c.in_ok-names_of_methods.ensures.named,
    )
