use Rattle.std.proofs.Common.{suc, sym, ap, ◌∙◌, one-add}
use Rattle.gen_expressions.specs.View.{operand_of}
use Rattle.gen_members.specs.Sizes.{sized}
use Rattle.gen_members.proofs.Sizing.{takes}
use Rattle.gen_members.proofs.sizes.size_at.Goals as goal

pub returns-clause-size : goal.returns-clause-size
returns-clause-size c = λ p.
    let operand = operand_of p c.args.instr.now.operand in
    one-add c.args_size.result
    ∙ ap suc (c.args_size.ensures.size p ∙ ap (λ form. sized form c.args.place c.args.number operand) c.form_of.ensures)
    ∙ sym (takes c.args.place c.args.instr.now.op operand c.args.number)
