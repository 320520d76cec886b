use Rattle.std.proofs.Common.{◌<◌, length, sym, subst}
use Rattle.vm_world.specs.Alone.{TurnsAlone}
use Rattle.vm_world.specs.Seen.{Seen}
use Rattle.vm_world.specs.View.{roles_of}
use Rattle.vm_world.proofs.Turning.{many}
use Rattle.vm_world.proofs.Alone.{turns_world}
use Rattle.vm_world.proofs.Typed.{suits_at, kept_alone}
use Rattle.vm_world.proofs.world.World.turns_alone.Goals as goal

pub returns-clause-turns : goal.returns-clause-turns
returns-clause-turns c =
    let lt : c.args.role < length c.self.inside.roles.items =
    subst (λ k. c.args.role < k) (many c.self.inside.roles.items)
    (subst (λ (s : Seen). c.args.role < length s.world.roles) (sym c.self.view_is) c.requires.number) in
    subst (λ (s : Seen). TurnsAlone s.program s.world c.args.role c.turns_alone.result (record {
      roles = roles_of (Rattle.std.proofs.Common.set c.self.inside.roles.items c.args.role c.turns_alone.new.role);
      messages = c.self.inside.ports;
      events = c.self.inside.events.items;
    })) c.self.view_is
    (turns_world c.self.inside.linked c.self.inside.roles.items c.args.role c.index_mut-one.result.now lt
    c.index_mut-one.ensures.value c.self.inside.ports c.self.inside.events.items c.turns_alone.new.role c.turns_alone.result
    c.turns_alone.ensures.turns)

pub turns_alone-requires-clause-typed : goal.turns_alone-requires-clause-typed
turns_alone-requires-clause-typed c =
    let lt : c.args.role < length c.self.inside.roles.items =
    subst (λ k. c.args.role < k) (many c.self.inside.roles.items)
    (subst (λ (s : Seen). c.args.role < length s.world.roles) (sym c.self.view_is) c.requires.number) in
    suits_at c.self.inside.linked c.self.inside.roles.items c.args.role c.index_mut-one.result.now lt c.index_mut-one.ensures.value
    c.self.inside.flat c.self.invariant.0.1

pub invariant_of-self : goal.invariant_of-self
invariant_of-self c =
    let lt : c.args.role < length c.self.inside.roles.items =
    subst (λ k. c.args.role < k) (many c.self.inside.roles.items)
    (subst (λ (s : Seen). c.args.role < length s.world.roles) (sym c.self.view_is) c.requires.number) in (
      kept_alone c.self.inside.linked c.self.inside.roles.items c.args.role c.index_mut-one.result.now lt c.index_mut-one.ensures.value
          c.turns_alone.new.role c.self.inside.flat c.turns_alone.result c.turns_alone.ensures.turns c.self.invariant.0,
      c.self.invariant.1,
    )
