use Rattle.std.proofs.Common.{arith, refl}
use Rattle.std.proofs.lemmas.Grind.{common_steps}
use Rattle.std.specs.Prelude.{◌+◌}
use Rattle.jv_tree.specs.View.{method_of}
use Rattle.jv_resolve.proofs.Called.{called_got, not_called}
use Rattle.jv_resolve.proofs.lookup.method_named.Goals as goal

pub returns-in-None : goal.returns-in-None
returns-in-None c =
    not_called method_of (λ x. x.name) (λ n m. record { method = m; number = c.args.entry.now.first_method + n })
    c.args.entry.now.class.now.methods.items _ refl c.args.name.now c.in-None.ensures

pub returns-in-Some-get : goal.returns-in-Some-get
returns-in-Some-get c =
    called_got method_of (λ x. x.name) (λ n m. record { method = m; number = c.args.entry.now.first_method + n })
    c.args.entry.now.class.now.methods.items _ refl c.args.name.now c.in-Some.place
    c.in-Some.ensures c.as_slice.result.now c.as_slice.ensures.items
    c.in-Some-get.method c.in-Some-get.ensures.lookup

pub returns-in-None-get : goal.returns-in-None-get
returns-in-None-get c = grind (arith, common_steps)
