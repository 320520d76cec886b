use Rattle.std.proofs.Common.{arith, refl}
use Rattle.std.proofs.lemmas.Grind.{common_steps}
use Rattle.jv_tree.specs.View.{field_of}
use Rattle.jv_resolve.proofs.Called.{called_got, not_called}
use Rattle.jv_resolve.proofs.lookup.field_named.Goals as goal

pub returns-in-None : goal.returns-in-None
returns-in-None c =
    not_called field_of (λ x. x.name) (λ n f. record { field = f; place = n }) c.args.entry.now.class.now.fields.items _ refl
    c.args.name.now c.in-None.ensures

pub returns-in-Some-get : goal.returns-in-Some-get
returns-in-Some-get c =
    called_got field_of (λ x. x.name) (λ n f. record { field = f; place = n }) c.args.entry.now.class.now.fields.items _ refl
    c.args.name.now c.in-Some.place c.in-Some.ensures c.as_slice.result.now c.as_slice.ensures.items
    c.in-Some-get.field c.in-Some-get.ensures.lookup

pub returns-in-None-get : goal.returns-in-None-get
returns-in-None-get c = grind (arith, common_steps)
