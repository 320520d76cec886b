use Rattle.std.proofs.Common.{◌≡◌, ap, ◌∙◌, arith}
use Rattle.cls_tree.specs.View.{instr_of, args_of}
use Rattle.cls_tree.specs.Opcodes.{form_of}
use Rattle.vm_load.specs.Width.{args_width}
use Rattle.vm_load.proofs.Widths.{is_width}
use Rattle.vm_load.proofs.code.width.Goals as goal

pub returns-clause-value : goal.returns-clause-value
returns-clause-value c =
    let v : c.args_width.result ≡ args_width c.args.place (form_of c.args.instr.now.op) (args_of c.args.instr.now.args) =
    c.args_width.ensures.value ∙ ap (λ f. args_width c.args.place f (args_of c.args.instr.now.args)) c.form_of.ensures in
    let e = is_width c.args.place (instr_of c.args.instr.now) in
    omega (arith, v, e)
