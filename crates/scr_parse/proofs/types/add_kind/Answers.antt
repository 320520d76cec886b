use Rattle.std.proofs.Common.{Some, ap, ◌∙◌}
use Rattle.scr_tree.specs.Written.{kind_if_class}
use Rattle.scr_parse.proofs.Tables.{added_kind}
use Rattle.scr_parse.proofs.types.add_kind.Goals as goal

pub returns : goal.returns
returns c =
    added_kind c.args.kinds.now c.args.declaration.now c.insert.new.self c.in_ok-key.key c.kind_of_class-kind.result
    c.as_str-alias.result.now
    c.in_ok-key.ensures.ok c.as_str-alias.ensures
    (c.kind_of_class-kind.ensures ∙ ap (λ n. kind_if_class
    (Some n)) c.as_str.ensures) c.if-contains_key.ensures c.in_ok-insert.ensures.updates
