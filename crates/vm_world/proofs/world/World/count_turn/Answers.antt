use Rattle.std.proofs.Common.{◌≡◌, ◌<◌, List, length, sym, ap, ◌∙◌, subst}
use Rattle.vm_world_law.specs.declared.role.RoleEvent.{RoleEvent}
use Rattle.vm_world_law.specs.World as model
use Rattle.vm_world_law.specs.Turns.{Advances}
use Rattle.vm_world.specs.Seen.{Seen}
use Rattle.vm_world.specs.View.{roles_of}
use Rattle.vm_world.specs.Names.{AreNames}
use Rattle.vm_world.proofs.Turning.{many}
use Rattle.vm_world.proofs.Naming.{names_more}
use Rattle.vm_world.proofs.Counting.{counted_ok, kept_counted, runs_there}
use Rattle.vm_world.proofs.world.World.count_turn.Goals as goal

pub returns-clause-advances : goal.returns-clause-advances
returns-clause-advances c =
    let lt : c.args.role < length c.self.inside.roles.items =
    subst (λ k. c.args.role < k) (many c.self.inside.roles.items)
    (subst (λ (s : Seen). c.args.role < length s.world.roles) (sym c.self.view_is) c.requires.number) in
    counted_ok c.self.inside.roles.items c.args.role c.index_mut.result.now lt c.index_mut.ensures.value c.self.inside.linked
    c.self.inside.ports c.count_turn.new.ports c.reserve.new.self.items c.self.inside.events.items c.count_turn.new.events.items
    c.count_turn.new.role c.args.self.now c.count_turn.result c.reserve.ensures.items c.self.view_is c.count_turn.ensures.ok

pub invariant_of-self-2 : goal.invariant_of-self-2
invariant_of-self-2 c =
    let lt : c.args.role < length c.self.inside.roles.items =
    subst (λ k. c.args.role < k) (many c.self.inside.roles.items)
    (subst (λ (s : Seen). c.args.role < length s.world.roles) (sym c.self.view_is) c.requires.number) in (
      kept_counted c.self.inside.linked c.self.inside.roles.items c.args.role c.index_mut.result.now lt c.index_mut.ensures.value
          c.count_turn.new.role c.self.inside.flat c.self.inside.ports c.count_turn.new.ports c.reserve.new.self.items
          c.count_turn.new.events.items c.count_turn.result c.count_turn.ensures.ok c.count_turn.ensures.err c.self.invariant.0,
      names_more c.reserve.new.self.texts c.count_turn.new.events.texts c.count_turn.ensures.texts c.self.inside.names
          c.self.inside.linked
          (subst (λ texts. AreNames texts c.self.inside.names c.self.inside.linked) (sym c.reserve.ensures.texts) c.self.invariant.1),
    )

pub count_turn-requires-clause-runs : goal.count_turn-requires-clause-runs
count_turn-requires-clause-runs c =
    let lt : c.args.role < length c.self.inside.roles.items =
    subst (λ k. c.args.role < k) (many c.self.inside.roles.items)
    (subst (λ (s : Seen). c.args.role < length s.world.roles) (sym c.self.view_is) c.requires.number) in
    runs_there c.self.inside.roles.items c.args.role c.index_mut.result.now lt c.index_mut.ensures.value c.args.self.now
    (ap (λ (s : Seen). s.world.roles) c.self.view_is) c.requires.runs
