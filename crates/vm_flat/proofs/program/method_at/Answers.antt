use Rattle.std.proofs.Common.{◌∙◌, sym, ap}
use Rattle.std.specs.Prelude.{option_map}
use Rattle.vm_flat.proofs.Rows.{stands, stands_nowhere}
use Rattle.vm_flat.proofs.program.method_at.Goals as goal

pub returns-in-Some-clause-stands : goal.returns-in-Some-clause-stands
returns-in-Some-clause-stands c = λ p h.
    stands c.args.flat.now.classes.items p h c.args.class c.in-Some.class.now
    (sym c.class_at.ensures ∙ ap (option_map (λ o. o.now)) c.in-Some.is) c.args.method _ (sym c.method_in.ensures)

pub returns-in-None-clause-stands : goal.returns-in-None-clause-stands
returns-in-None-clause-stands c = λ p h.
    stands_nowhere c.args.flat.now.classes.items p h c.args.class (sym c.class_at.ensures ∙ ap (option_map (λ o. o.now)) c.in-None.is)
    c.args.method
