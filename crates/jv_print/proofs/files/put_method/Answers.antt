use Rattle.std.proofs.Common.{List, ap, map, string_bytes}
use Rattle.std.proofs.lemmas.Result.{on_ok_weaker}
use Rattle.jv_tree.specs.declared.tree.Stmt.{Stmt}
use Rattle.jv_tree.specs.declared.tree.Param.{Param}
use Rattle.jv_tree.specs.View.{stmt_of, stmts_of}
use Rattle.jv_print.specs.Layout.{static_text, type_text, all_params, braced, lines}
use Rattle.jv_print.proofs.Joins.{method_joined}
use Rattle.jv_print.proofs.files.put_method.Goals as goal

pub returns : goal.returns
returns c =
    let m = c.args.method.now in
    on_ok_weaker c.put-4.result (λ e. method_joined (string_bytes c.args.out.now) (string_bytes c.put.new.out)
    (string_bytes c.put-2.new.out)
    (string_bytes c.put_all_params.new.out) (string_bytes c.put-3.new.out)
    (string_bytes c.put_block.new.out) (string_bytes c.put-4.new.out) (static_text m.is_static) c.static_text.result.now
    (type_text m.result) c.type_text.result.now m.name c.as_str.result.now
    (all_params m.takes_args m.params.items) (all_params m.takes_args c.as_slice.result.now)
    (braced 1 (lines 2 (stmts_of (map stmt_of m.body.items))))
    (braced 1 (lines 2 (stmts_of (map stmt_of c.as_slice-2.result.now)))) c.static_text.ensures c.type_text.ensures c.as_str.ensures
    (ap (λ (l : List Param). all_params m.takes_args l) c.as_slice.ensures.items)
    (ap (λ (l : List Stmt). braced 1 (lines 2 (stmts_of (map stmt_of l)))) c.as_slice-2.ensures.items)
    c.in_ok-put.ensures c.in_ok-put-2.ensures c.in_ok-put_all_params.ensures c.in_ok-put-3.ensures c.in_ok-put_block.ensures
    e) c.put-4.ensures
