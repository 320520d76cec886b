use Rattle.std.proofs.Common.{◌≡◌, ◌<◌, List, ◌++◌, ◌∷◌, [], length, true, Some, sym, ap, ◌∙◌, subst}
use Rattle.mg_text.specs.Call.{Name}
use Rattle.vm_world_law.specs.declared.role.RoleEvent.{RoleEvent}
use Rattle.vm_world_law.specs.declared.role.Turned.TheVariants as answers
use Rattle.vm_world_law.specs.World as model
use Rattle.vm_world_law.specs.World.{of_role}
use Rattle.vm_world_law.specs.Turns.{Advances}
use Rattle.vm_typed.specs.Telling.{event_told}
use Rattle.vm_events.specs.Seen.{IsNamed, numbered_event}
use Rattle.vm_world.specs.Seen.{Seen}
use Rattle.vm_world.specs.View.{roles_of}
use Rattle.vm_world.specs.Names.{AreNames, numbered_by}
use Rattle.vm_world.proofs.Turning.{many, roles_same}
use Rattle.vm_world.proofs.Typed.{suits_at, kept_turned, kept_same}
use Rattle.vm_world.proofs.Naming.{is_named, numbered_is}
use Rattle.vm_world.proofs.Told.{world_tells}
use Rattle.vm_world.proofs.world.World.tell.Goals as goal

pub note-requires-clause-named : goal.note-requires-clause-named
note-requires-clause-named c =
    let named : AreNames c.reserve.new.self.texts c.self.inside.names c.self.inside.linked =
    subst (λ texts. AreNames texts c.self.inside.names c.self.inside.linked) (sym c.reserve.ensures.texts) c.self.invariant.1 in
    let h = rw c.in-Some-tell.is at c.tell.ensures in
    subst (IsNamed (length c.reserve.new.self.texts)) (sym c.numbered.ensures)
    (is_named c.reserve.new.self.texts c.self.inside.names c.self.inside.linked named c.in-Some-tell.telling h.there)

pub returns-clause-told : goal.returns-clause-told
returns-clause-told c =
    let lt : c.args.role < length c.self.inside.roles.items =
    subst (λ k. c.args.role < k) (many c.self.inside.roles.items)
    (subst (λ (s : Seen). c.args.role < length s.world.roles) (sym c.self.view_is) c.requires.number) in
    let p = c.self.inside.linked in
    let telling = c.in-Some-tell.telling in
    let texts : List Name = c.reserve.new.self.texts in
    let named : AreNames texts c.self.inside.names p =
    subst (λ l. AreNames l c.self.inside.names p) (sym c.reserve.ensures.texts) c.self.invariant.1 in
    let h = rw c.in-Some-tell.is at c.tell.ensures in
    let before : List RoleEvent = c.self.inside.events.items in
    let events : c.note.new.self.items ≡ before ++ of_role c.args.role (event_told p telling) ∷ [] =
    c.note.ensures.items
    ∙ ap (λ (l : List RoleEvent). l ++ of_role c.args.role (numbered_event texts c.numbered.result) ∷ []) c.reserve.ensures.items
    ∙ ap (λ n. before ++ of_role c.args.role (numbered_event texts n) ∷ []) c.numbered.ensures
    ∙ ap (λ e. before ++ of_role c.args.role e ∷ []) (numbered_is texts c.self.inside.names p named telling h.there) in
    let after : List RoleEvent → model.World = λ es. record {
      roles = roles_of (Rattle.std.proofs.Common.set c.self.inside.roles.items c.args.role c.tell.new.role);
      messages = c.self.inside.ports;
      events = es;
    } in
    subst (λ (s : Seen). Advances s.program s.world c.args.role (after c.note.new.self.items) true) c.self.view_is
    (subst (λ (es : List RoleEvent). Advances p (record {
      roles = roles_of c.self.inside.roles.items;
      messages = c.self.inside.ports;
      events = before;
    }) c.args.role (after es) true) (sym events)
    (world_tells c.self.inside.roles.items c.args.role c.index_mut.result.now lt c.index_mut.ensures.value p c.self.inside.ports before
    c.tell.new.role telling h))

pub returns-in_default-tell-clause-told : goal.returns-in_default-tell-clause-told
returns-in_default-tell-clause-told c =
    let lt : c.args.role < length c.self.inside.roles.items =
    subst (λ k. c.args.role < k) (many c.self.inside.roles.items)
    (subst (λ (s : Seen). c.args.role < length s.world.roles) (sym c.self.view_is) c.requires.number) in
    let same = rw c.in_default-tell.is at c.tell.ensures in
    ap (λ (l : List model.Role). record { roles = l; messages = c.self.inside.ports; events = c.reserve.new.self.items })
    (roles_same c.self.inside.roles.items c.args.role c.index_mut.result.now lt c.index_mut.ensures.value c.tell.new.role same)
    ∙ ap (λ (es : List RoleEvent). record {
      roles = roles_of c.self.inside.roles.items;
      messages = c.self.inside.ports;
      events = es;
    }) c.reserve.ensures.items
    ∙ ap (λ (s : Seen). s.world) c.self.view_is

pub invariant_of-self-in_default-tell : goal.invariant_of-self-in_default-tell
invariant_of-self-in_default-tell c =
    let lt : c.args.role < length c.self.inside.roles.items =
    subst (λ k. c.args.role < k) (many c.self.inside.roles.items)
    (subst (λ (s : Seen). c.args.role < length s.world.roles) (sym c.self.view_is) c.requires.number) in
    let same = rw c.in_default-tell.is at c.tell.ensures in (
      kept_same c.self.inside.linked c.self.inside.roles.items c.args.role c.index_mut.result.now lt c.index_mut.ensures.value
          c.tell.new.role c.self.inside.flat same c.self.invariant.0,
      subst (λ texts. AreNames texts c.self.inside.names c.self.inside.linked) (sym c.reserve.ensures.texts) c.self.invariant.1,
    )

pub invariant_of-self-2 : goal.invariant_of-self-2
invariant_of-self-2 c =
    let lt : c.args.role < length c.self.inside.roles.items =
    subst (λ k. c.args.role < k) (many c.self.inside.roles.items)
    (subst (λ (s : Seen). c.args.role < length s.world.roles) (sym c.self.view_is) c.requires.number) in
    let h = rw c.in-Some-tell.is at c.tell.ensures in (
      kept_turned c.self.inside.linked c.self.inside.roles.items c.args.role c.index_mut.result.now lt c.index_mut.ensures.value
          c.tell.new.role c.self.inside.flat c.self.inside.ports c.self.inside.ports
          (Some (event_told c.self.inside.linked c.in-Some-tell.telling)) answers.Went (h.outcome_is c.args.role c.self.inside.ports)
          c.self.invariant.0,
      subst (λ texts. AreNames texts c.self.inside.names c.self.inside.linked)
          (sym (c.note.ensures.texts ∙ c.reserve.ensures.texts)) c.self.invariant.1,
    )
