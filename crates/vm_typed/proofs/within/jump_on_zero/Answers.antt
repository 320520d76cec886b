use Rattle.std.proofs.Common.{◌≡◌, ◌+◌, Bool, pos, sym, ap, ◌∙◌, to_z, of_z, arith}
use Rattle.std.proofs.lemmas.Int.{to_z-of_z}
use Rattle.std.specs.Prelude.{if◌then◌else◌}
use mir.Syntax.{w32}
use Rattle.vm_model.specs.Machine.{Machine}
use Rattle.vm_model.specs.Arithmetic.{compares}
use Rattle.vm_session.specs.State.{state_of}
use Rattle.vm_actions.specs.Table.{comparison_of}
use Rattle.vm_typed.proofs.Taken.{on_zero_some, on_zero_int, branches_on_zero, never_none}
use Rattle.vm_typed.proofs.within.jump_on_zero.Goals as goal

pub int_at-requires : goal.int_at-requires
int_at-requires c =
    on_zero_some c.args.linked.now (state_of c.args.state.now) (comparison_of c.args.comparison) c.args.target c.requires.next

pub unreachable-requires : goal.unreachable-requires
unreachable-requires c =
    let int = on_zero_int c.args.linked.now (state_of c.args.state.now) (comparison_of c.args.comparison) c.args.target c.requires.next in
    never_none c.in_default.is (c.int_at.ensures ∙ int.1)

pub returns : goal.returns
returns c =
    let m : Machine = state_of c.args.state.now in
    let e : to_z w32 (of_z w32 c.in-Some.x) ≡ c.in-Some.x = grind (arith, to_z-of_z) in
    branches_on_zero c.args.linked.now m (state_of c.drop.new.self) (comparison_of c.args.comparison) c.args.target
    c.place_after-place.result c.in-Some.x c.requires.next (sym c.in-Some.is ∙ c.int_at.ensures)
    (c.place_after-place.ensures ∙ ap (λ (b : Bool). if b then c.args.target else m.frame.place + 1)
    (c.compares.ensures ∙ ap (λ x. compares (comparison_of c.args.comparison) x (pos 0)) e)) c.drop.ensures.machine
