use Rattle.std.proofs.Common.{[], ap, string_bytes, List}
use Rattle.std.proofs.lemmas.Result.{on_ok_weaker}
use Rattle.mg_text.specs.Call.{Name}
use Rattle.jv_print.specs.Layout.{names_text}
use Rattle.jv_print.proofs.Joins.{enum_joined}
use Rattle.jv_print.proofs.files.put_enum.Goals as goal

pub returns : goal.returns
returns c =
    on_ok_weaker c.put-2.result (λ e. enum_joined (string_bytes c.args.out.now) (string_bytes c.put.new.out)
    (string_bytes c.put_names.new.out) (string_bytes c.put-2.new.out)
    c.args.of.now.name c.as_str.result.now
    (names_text [] c.args.of.now.constants.items) (names_text [] c.as_slice.result.now) c.as_str.ensures
    (ap (λ (l : List Name). names_text [] l) c.as_slice.ensures.items)
    c.in_ok-put.ensures c.in_ok-put_names.ensures e) c.put-2.ensures
