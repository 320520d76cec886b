use Rattle.std.proofs.Common.{List, ap, map, string_bytes}
use Rattle.std.proofs.lemmas.Result.{on_ok_weaker}
use Rattle.std.specs.List.{flat_map}
use Rattle.jv_tree.specs.declared.tree.Field.{Field}
use Rattle.jv_tree.specs.declared.tree.MethodDecl.{MethodDecl}
use Rattle.jv_tree.specs.View.{field_of, method_of}
use Rattle.jv_print.specs.Layout.{annotation, field_line, method_lines}
use Rattle.jv_print.proofs.Joins.{class_joined}
use Rattle.jv_print.proofs.files.put_class.Goals as goal

pub returns : goal.returns
returns c =
    let k = c.args.class.now in
    on_ok_weaker c.put-2.result (λ e. class_joined (string_bytes c.args.out.now) (string_bytes c.put_annotation.new.out)
    (string_bytes c.put.new.out)
    (string_bytes c.put_fields.new.out) (string_bytes c.put_methods.new.out)
    (string_bytes c.put-2.new.out) (annotation k.typestate) k.name c.as_str.result.now (flat_map field_line (map field_of k.fields.items))
    (flat_map field_line (map field_of c.as_slice.result.now))
    (flat_map method_lines (map method_of k.methods.items)) (flat_map method_lines (map method_of c.as_slice-2.result.now)) c.as_str.ensures
    (ap (λ (l : List Field). flat_map field_line (map field_of l)) c.as_slice.ensures.items)
    (ap (λ (l : List MethodDecl). flat_map method_lines (map method_of l)) c.as_slice-2.ensures.items)
    c.in_ok-put_annotation.ensures c.in_ok-put.ensures c.in_ok-put_fields.ensures c.in_ok-put_methods.ensures e) c.put-2.ensures
