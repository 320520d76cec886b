use Rattle.std.proofs.Common.{arith, ◌≡◌, false, ap, ◌∙◌}
use Rattle.jv_tree.proofs.ViewLaws.{expr_of-is, kind-MethodCall}
use Rattle.jv_parse.proofs.Evaluating.{kinds, does_print, call_is, prints_are}
use Rattle.jv_parse.specs.inner.Evaluations.{eval_if}
use Rattle.jv_parse.proofs.evaluations.method_call.Goals as goal

pub returns : goal.returns
returns c =
    let stays : does_print c.args.receiver.value c.args.name c.args.args.items ≡ false =
    prints_are c.prints.result false c.deref.result.now c.args.receiver.value c.as_str.result.now c.args.name c.as_slice.result.now
    c.args.args.items
    c.prints.ensures c.if-prints.false c.deref.ensures c.as_str.ensures c.as_slice.ensures.items
    in
    c.eval.ensures ∙ ap (eval_if c.args.levels c.args.place) (expr_of-is _ ∙ kind-MethodCall c.args.receiver c.args.name c.args.args
    c.args.at)
    ∙ call_is c.args.levels c.args.place c.args.at c.args.receiver.value c.args.name c.args.args.items stays

pub eval-requires : goal.eval-requires
eval-requires c = grind (arith, kinds)

pub print-requires : goal.print-requires
print-requires c = grind (arith, kinds)

pub returns-in_err-value : goal.returns-in_err-value
returns-in_err-value c = grind (arith, kinds)
