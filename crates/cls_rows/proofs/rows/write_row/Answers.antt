use Rattle.std.proofs.Common.{sym}
use Rattle.vm_model.specs.Actions.{Write}
use Rattle.cls_rows.proofs.Belonging.{class_none, field_none, write_comes}
use Rattle.cls_rows.proofs.rows.write_row.Goals as goal

pub returns-in_default-clause-comes : goal.returns-in_default-clause-comes
returns-in_default-clause-comes c = class_none c.args.scene c.args.stacks.now c.args.frame (Write c.args.class c.args.field) c.args.class
    (sym c.in_default.ensures)
    (λ p n. n.is_own.within)

pub returns-in_default-own_field-clause-comes : goal.returns-in_default-own_field-clause-comes
returns-in_default-own_field-clause-comes c = field_none c.args.scene c.args.stacks.now c.args.frame (Write c.args.class c.args.field)
    c.args.class c.args.field
    c.in-Some.kept.now (sym c.in-Some.ensures) c.in_default-own_field.ensures.none (λ p n. n)

pub returns-clause-comes : goal.returns-clause-comes
returns-clause-comes c = write_comes c.args.scene c.args.stacks.now c.settle.new.stacks c.args.frame c.args.class c.args.field
    c.in-Some.kept.now c.in-Some-own_field.kind
    c.settle.result (sym c.in-Some.ensures) c.in-Some-own_field.ensures.found.0 c.in-Some-own_field.ensures.found.1 c.settle.ensures.settled
