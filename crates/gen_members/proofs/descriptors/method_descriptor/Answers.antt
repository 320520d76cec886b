use Rattle.std.proofs.Common.{◌++◌, map, take, string_bytes, ap, ◌∙◌}
use Rattle.jv_core.specs.View.{slot_of}
use Rattle.gen_members.specs.Slots.{slots_text}
use Rattle.gen_members.proofs.Described.{descriptor_parts}
use Rattle.gen_members.proofs.descriptors.method_descriptor.Goals as goal

pub returns : goal.returns
returns c =
    let p = c.args.core.now in
    let m = c.args.method.now in
    rw (← c.is_main.ensures, c.if-is_main.false)
    (descriptor_parts p (take m.params (map slot_of m.slots.items)) m.result _ _ _ _ c.in_ok-out.ensures.ok
    (c.in_ok-put_params.ensures ∙ ap (λ s. string_bytes c.in_ok-out.out ++ slots_text p s) c.params.ensures)
    c.in_ok-push_str.ensures.bytes c.in_ok-put_result.ensures)
