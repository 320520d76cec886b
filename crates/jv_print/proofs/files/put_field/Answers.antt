use Rattle.std.proofs.Common.{string_bytes}
use Rattle.std.proofs.lemmas.Result.{on_ok_weaker}
use Rattle.std.specs.Prelude.{option_map}
use Rattle.jv_tree.specs.View.{expr_of}
use Rattle.jv_print.specs.Layout.{type_text, field_value}
use Rattle.jv_print.proofs.Joins.{field_joined}
use Rattle.jv_print.proofs.files.put_field.Goals as goal

pub returns : goal.returns
returns c =
    on_ok_weaker c.put-2.result (λ e. field_joined (string_bytes c.args.out.now) (string_bytes c.put.new.out)
    (string_bytes c.put_value.new.out)
    (string_bytes c.put-2.new.out) (type_text c.args.field.now.ty) c.type_text.result.now
    c.args.field.now.name c.as_str.result.now (field_value (option_map expr_of c.args.field.now.value)) c.type_text.ensures c.as_str.ensures
    c.in_ok-put.ensures c.in_ok-put_value.ensures
    e) c.put-2.ensures
