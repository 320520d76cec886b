use Rattle.std.proofs.Common.{map, ap, ◌∙◌}
use Rattle.std.specs.List.{filter}
use Rattle.cls_tree.specs.View.{class_of, member_of}
use Rattle.vm_model.specs.Links.{is_dynamic, or_empty}
use Rattle.vm_load.specs.Declaring.{declared_of}
use Rattle.vm_load.proofs.Outlined.{outline_is}
use Rattle.vm_load.proofs.outline.outlined.Goals as goal

pub returns : goal.returns
returns c =
    outline_is (class_of c.args.class.now) c.as_slice-pool.result.now c.as_slice-pool.ensures.items _ (map member_of c.as_slice.result.now)
    (map member_of c.as_slice-3.result.now) _ _ _ (ap (map member_of) c.as_slice.ensures.items)
    (ap (map member_of) c.as_slice-3.ensures.items)
    (c.or_empty.ensures ∙ ap or_empty c.class_at.ensures) c.in_ok-fields.ensures
    (c.in_ok-own.ensures ∙ c.in_ok-own_of.ensures ∙ ap (λ l. filter is_dynamic (map declared_of l)) c.as_slice-2.ensures.value)
    (c.in_ok-methods.ensures ∙ c.in_ok-all_declared.ensures)
