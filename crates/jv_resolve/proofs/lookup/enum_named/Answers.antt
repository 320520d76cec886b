use Rattle.std.proofs.Common.{arith, refl}
use Rattle.std.proofs.lemmas.Grind.{common_steps}
use Rattle.jv_tree.specs.View.{enum_of}
use Rattle.jv_resolve.proofs.Called.{called_got, not_called}
use Rattle.jv_types.specs.Tables.{enum_entries_of}
use Rattle.jv_resolve.proofs.lookup.enum_named.Goals as goal

pub returns-in-None : goal.returns-in-None
returns-in-None c = not_called (λ e. enum_of e.of.now) (λ x. x.name) (λ n e. record { number = n; enum = e })
    (enum_entries_of c.args.table.now) _ refl c.args.name.now c.in-None.ensures

pub returns-in-Some-get : goal.returns-in-Some-get
returns-in-Some-get c =
    called_got (λ e. enum_of e.of.now) (λ x. x.name) (λ n e. record { number = n; enum = e }) (enum_entries_of c.args.table.now) _ refl
    c.args.name.now c.in-Some.number c.in-Some.ensures c.enums.result.now c.enums.ensures
    c.in-Some-get.entry c.in-Some-get.ensures.lookup

pub returns-in-None-get : goal.returns-in-None-get
returns-in-None-get c = grind (arith, common_steps)
