use Rattle.std.proofs.Common.{ap, ◌∙◌, get_or}
use Rattle.vm_flat.proofs.Rows.{there_is}
use Rattle.vm_flat.proofs.program.method_there.Goals as goal

pub returns : goal.returns
returns c =
    let class = c.index-as_slice-class.result in
    let method = c.index-as_slice-method.result in
    there_is c.args.flat.now.classes.items c.args.class c.args.method class method c.requires
    (c.index-as_slice-class.is ∙ ap (λ l. get_or l c.args.class class) c.as_slice.ensures.items)
    (c.index-as_slice-method.is ∙ ap (λ l. get_or l c.args.method method) c.as_slice-2.ensures.items)
