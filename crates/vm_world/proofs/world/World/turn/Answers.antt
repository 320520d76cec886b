use Rattle.std.proofs.Common.{◌≡◌, ℕ, ◌<◌, ◌++◌, length, map, sym, ap, ap₂, ◌∙◌, subst}
use Rattle.vm_model.specs.Machine.{noted}
use Rattle.vm_world_law.specs.World as model
use Rattle.vm_world.specs.Seen.{Seen}
use Rattle.vm_world.specs.View.{roles_of}
use Rattle.vm_world.proofs.Turning.{turned_world, turned_answer, roles_same, many, on_err_of}
use Rattle.vm_world.specs.Names.{AreNames}
use Rattle.vm_world.proofs.Naming.{names_more}
use Rattle.vm_world.proofs.Typed.{kept_same, kept_turned}
use Rattle.vm_world.proofs.world.World.turn.Goals as goal

pub returns-in_err-taken-clause-err : goal.returns-in_err-taken-clause-err
returns-in_err-taken-clause-err c =
    let lt : c.args.role < length c.self.inside.roles.items =
    subst (λ k. c.args.role < k) (many c.self.inside.roles.items)
    (subst (λ (s : Seen). c.args.role < length s.world.roles) (sym c.self.view_is) c.requires.number) in
    let roles = roles_same c.self.inside.roles.items c.args.role c.index_mut.result.now lt c.index_mut.ensures.value c.take_turn.new.role
    c.in_err-taken.ensures.err in
    let events = c.reserve.ensures.items in
    on_err_of _
    (ap (λ l. record {
      program = c.self.inside.linked;
      world = record { roles = l; messages = c.take_turn.new.ports; events = c.reserve.new.self.items };
    }) roles
    ∙ ap (λ q. record {
      program = c.self.inside.linked;
      world = record { roles = roles_of c.self.inside.roles.items; messages = q; events = c.reserve.new.self.items };
    }) c.in_err-taken.ensures.err_ports
    ∙ ap (λ es. record {
      program = c.self.inside.linked;
      world = record { roles = roles_of c.self.inside.roles.items; messages = c.self.inside.ports; events = es };
    }) events
    ∙ c.self.view_is)

pub returns-clause-ok : goal.returns-clause-ok
returns-clause-ok c =
    let lt : c.args.role < length c.self.inside.roles.items =
    subst (λ k. c.args.role < k) (many c.self.inside.roles.items)
    (subst (λ (s : Seen). c.args.role < length s.world.roles) (sym c.self.view_is) c.requires.number) in
    ap (λ es. record {
      roles = roles_of (Rattle.std.proofs.Common.set c.self.inside.roles.items c.args.role c.take_turn.new.role);
      messages = c.take_turn.new.ports;
      events = es;
    }) (c.note.ensures.items ∙ ap (λ l. l ++ map (model.of_role c.args.role) (noted c.in_ok-taken.taken.event)) c.reserve.ensures.items)
    ∙ turned_world c.self.inside.roles.items c.args.role c.index_mut.result.now lt c.index_mut.ensures.value
    c.self.inside.linked c.self.inside.ports c.take_turn.new.ports c.self.inside.events.items
    c.take_turn.new.role c.in_ok-taken.taken.event c.in_ok-taken.taken.turned c.in_ok-taken.ensures.ok
    ∙ ap (λ (s : Seen). model.turn s.program s.world c.args.role) c.self.view_is

pub returns-clause-turned : goal.returns-clause-turned
returns-clause-turned c =
    let lt : c.args.role < length c.self.inside.roles.items =
    subst (λ k. c.args.role < k) (many c.self.inside.roles.items)
    (subst (λ (s : Seen). c.args.role < length s.world.roles) (sym c.self.view_is) c.requires.number) in
    turned_answer c.self.inside.roles.items c.args.role c.index_mut.result.now lt c.index_mut.ensures.value
    c.self.inside.linked c.self.inside.ports c.take_turn.new.ports c.self.inside.events.items
    c.take_turn.new.role c.in_ok-taken.taken.event c.in_ok-taken.taken.turned c.in_ok-taken.ensures.ok
    ∙ ap (λ (s : Seen). model.turned s.program s.world c.args.role) c.self.view_is

pub invariant_of-self : goal.invariant_of-self
invariant_of-self c =
    (c.self.invariant.0, subst (λ texts. AreNames texts c.self.inside.names c.self.inside.linked) (sym c.reserve.ensures.texts) c.self.invariant.1)

pub invariant_of-self-in_err-taken : goal.invariant_of-self-in_err-taken
invariant_of-self-in_err-taken c =
    let lt : c.args.role < length c.self.inside.roles.items =
    subst (λ k. c.args.role < k) (many c.self.inside.roles.items)
    (subst (λ (s : Seen). c.args.role < length s.world.roles) (sym c.self.view_is) c.requires.number) in (
      kept_same c.self.inside.linked c.self.inside.roles.items c.args.role c.index_mut.result.now lt c.index_mut.ensures.value
          c.take_turn.new.role c.self.inside.flat c.in_err-taken.ensures.err c.self.invariant.0,
      subst (λ texts. AreNames texts c.self.inside.names c.self.inside.linked) (sym c.reserve.ensures.texts) c.self.invariant.1,
    )

pub invariant_of-self-2 : goal.invariant_of-self-2
invariant_of-self-2 c =
    let lt : c.args.role < length c.self.inside.roles.items =
    subst (λ k. c.args.role < k) (many c.self.inside.roles.items)
    (subst (λ (s : Seen). c.args.role < length s.world.roles) (sym c.self.view_is) c.requires.number) in
    let kept = kept_turned c.self.inside.linked c.self.inside.roles.items c.args.role c.index_mut.result.now lt c.index_mut.ensures.value
    c.take_turn.new.role c.self.inside.flat c.self.inside.ports c.take_turn.new.ports c.in_ok-taken.taken.event
    c.in_ok-taken.taken.turned c.in_ok-taken.ensures.ok c.self.invariant.0 in (
      kept,
      names_more c.reserve.new.self.texts c.note.new.events.texts c.note.ensures.texts c.self.inside.names c.self.inside.linked
          (subst (λ texts. AreNames texts c.self.inside.names c.self.inside.linked) (sym c.reserve.ensures.texts) c.self.invariant.1),
    )
