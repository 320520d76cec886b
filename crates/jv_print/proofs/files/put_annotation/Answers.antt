use Rattle.std.proofs.Common.{string_bytes}
use Rattle.std.proofs.lemmas.Result.{on_ok_weaker}
use Rattle.jv_print.proofs.Joins.{annotated}
use Rattle.jv_print.proofs.files.put_annotation.Goals as goal

pub returns : goal.returns
returns c =
    on_ok_weaker c.put-2.result (λ e. annotated (string_bytes c.args.out.now) (string_bytes c.put.new.out)
    (string_bytes c.put_quoted.new.out) (string_bytes c.put-2.new.out)
    c.args.typestate.now c.in-Some.typestate
    c.as_str.result.now c.in-Some.is c.as_str.ensures c.in_ok-put.ensures c.in_ok-put_quoted.ensures e) c.put-2.ensures
