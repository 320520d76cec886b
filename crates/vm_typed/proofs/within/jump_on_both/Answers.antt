use Rattle.std.proofs.Common.{◌≡◌, ◌+◌, Bool, sym, ap, ◌∙◌, to_z, of_z, arith}
use Rattle.std.proofs.lemmas.Int.{to_z-of_z}
use Rattle.std.specs.Prelude.{if◌then◌else◌}
use mir.Syntax.{w32}
use Rattle.vm_model.specs.Machine.{Machine}
use Rattle.vm_model.specs.Arithmetic.{compares}
use Rattle.vm_session.specs.State.{state_of}
use Rattle.vm_actions.specs.Table.{comparison_of}
use Rattle.vm_typed.proofs.Taken.{on_both_some, on_both_ints, branches_on_both, never_none}
use Rattle.vm_typed.proofs.within.jump_on_both.Goals as goal

pub int_at-requires : goal.int_at-requires
int_at-requires c =
    on_both_some c.args.linked.now (state_of c.args.state.now) (comparison_of c.args.comparison) c.args.target c.requires.next

pub unreachable-requires : goal.unreachable-requires
unreachable-requires c =
    let ints = on_both_ints c.args.linked.now (state_of c.args.state.now) (comparison_of c.args.comparison) c.args.target
    c.requires.next in
    never_none c.in_default.is (c.int_at.ensures ∙ ints.0.1)

pub unreachable-requires-in_default-int_at : goal.unreachable-requires-in_default-int_at
unreachable-requires-in_default-int_at c =
    let ints = on_both_ints c.args.linked.now (state_of c.args.state.now) (comparison_of c.args.comparison) c.args.target
    c.requires.next in
    never_none c.in_default-int_at.is (c.int_at-2.ensures ∙ ints.1.1)

pub drop-requires : goal.drop-requires
drop-requires c =
    on_both_some c.args.linked.now (state_of c.args.state.now) (comparison_of c.args.comparison) c.args.target c.requires.next

pub returns : goal.returns
returns c =
    let m : Machine = state_of c.args.state.now in
    let e : to_z w32 (of_z w32 c.in-Some.x) ≡ c.in-Some.x = grind (arith, to_z-of_z) in
    let f : to_z w32 (of_z w32 c.in-Some-int_at.y) ≡ c.in-Some-int_at.y = grind (arith, to_z-of_z) in
    branches_on_both c.args.linked.now m (state_of c.drop.new.self) (comparison_of c.args.comparison) c.args.target
    c.place_after-place.result c.in-Some.x c.in-Some-int_at.y c.requires.next
    (sym c.in-Some.is ∙ c.int_at.ensures) (sym c.in-Some-int_at.is ∙ c.int_at-2.ensures)
    (c.place_after-place.ensures ∙ ap (λ (b : Bool). if b then c.args.target else m.frame.place + 1)
    (c.compares.ensures ∙ (λ i. compares (comparison_of c.args.comparison) (e i) (f i)))) c.drop.ensures.machine
