use Rattle.std.proofs.Common.{map, sym, ap, ◌∙◌}
use Rattle.std.proofs.lemmas.Result.{err_from_is_err_and}
use Rattle.jv_tree.specs.View.{enum_of}
use Rattle.jv_core.specs.View.{class_of, enum_of as core_enum}
use Rattle.jv_resolve_law.specs.Members.{enums, classes}
use Rattle.jv_resolve.specs.inner.Seen.{entry_seen, tables_seen}
use Rattle.jv_resolve.proofs.Chains.{fails_as}
use Rattle.jv_resolve.proofs.Wholes.{heads_fail, heads_made}
use Rattle.jv_resolve.proofs.program.resolve_heads.Goals as goal

pub returns-in_err-classes : goal.returns-in_err-classes
returns-in_err-classes c =
    let p = err_from_is_err_and c.from_residual-in_err-classes.result c.from_residual-in_err-classes.ensures.1 in
    rw (p.1, p.2)
    (heads_fail (tables_seen c.args.table.now) c.new-names.result c.new-names.ensures (map core_enum c.in_ok-enums.enums.items)
    c.resolve_enums.new.names
    (ap (enums c.new-names.result) (ap (map (λ e. enum_of e.of.now)) (sym c.enums.ensures)) ∙ c.in_ok-enums.ensures)
    c.in_err-classes.field-0.0 (fails_as c.in_err-classes.field-0.0 _ _
    (ap (λ es. classes (tables_seen c.args.table.now) c.resolve_enums.new.names (map entry_seen es)) (sym c.classes.ensures.items))
    c.in_err-classes.ensures))

pub returns : goal.returns
returns c =
    heads_made (tables_seen c.args.table.now) c.new-names.result c.new-names.ensures (map core_enum c.in_ok-enums.enums.items)
    c.resolve_enums.new.names
    (ap (enums c.new-names.result) (ap (map (λ e. enum_of e.of.now)) (sym c.enums.ensures)) ∙ c.in_ok-enums.ensures)
    (map class_of c.in_ok-classes.classes.items) c.resolve_classes.new.names
    (ap (λ es. classes (tables_seen c.args.table.now) c.resolve_enums.new.names (map entry_seen es)) (sym c.classes.ensures.items) ∙
    c.in_ok-classes.ensures)
