use Rattle.std.proofs.Common.{sym, subst}
use Rattle.cls_kinds.specs.Named.{kind_of}
use Rattle.cls_table.specs.Kept.{kept_kind}
use Rattle.cls_table.specs.Known.{KnowsType}
use Rattle.cls_table.proofs.Tabled.{one_made, all_made}
use Rattle.cls_table.proofs.types.add_kinds.Goals as goal

pub kind_of_type-requires : goal.kind_of_type-requires
kind_of_type-requires c =
    subst (KnowsType c.args.names.now) (sym c.field_type-item.is)
    (c.requires c.loop-field_type.field_type-index c.field_type-item.result c.loop-field_type-test.true)

pub loop-field_type-preserved : goal.loop-field_type-preserved
loop-field_type-preserved c =
    one_made (kind_of c.args.names.now) kept_kind c.args.types.now c.loop-field_type.field_type-index c.field_type-item.result _ _
    c.kind_of_type.result _ c.loop-field_type-test.true c.field_type-item.is c.kind_of_type.ensures c.in_ok-push.ensures.items
    c.loop-field_type.invariant

pub returns : goal.returns
returns c =
    all_made (kind_of c.args.names.now) kept_kind c.args.types.now c.loop-field_type.field_type-index _ _ c.loop-field_type-test.false
    c.loop-field_type.invariant
